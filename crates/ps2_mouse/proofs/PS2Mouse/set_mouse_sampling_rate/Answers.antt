-- `PS2Mouse::set_mouse_sampling_rate` meets its contract: the command and its data, with their refusals replaced.
use Rattle.ps2_mouse.specs.Mouse.{set_sampling_rate}
use Rattle.ps2_mouse.proofs.PS2Mouse.set_mouse_sampling_rate.Goals as goal

pub returns : goal.returns
unfolding set_sampling_rate
returns c = c.setting.ensures
