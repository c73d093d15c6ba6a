-- `PS2Mouse::mouse_resolution` meets its contract: the command and its data, with their refusals replaced.
use Rattle.ps2_mouse.specs.Mouse.{set_resolution}
use Rattle.ps2_mouse.proofs.PS2Mouse.mouse_resolution.Goals as goal

pub returns : goal.returns
unfolding set_resolution
returns c = c.setting.ensures
