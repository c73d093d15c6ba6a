-- The two agree, since each tells the operation's play.
use Rattle.ps2_mouse.specs.Mouse.{set_sampling_rate}
use Rattle.theseus_ps2.proofs.Agreed.{agree_run}
use Rattle.theseus_ps2.proofs.both_mouse.both_set_mouse_sampling_rate.Goals as goal

pub returns : goal.returns
returns c = agree_run (set_sampling_rate c.args.value) _ _ _ _ c.start-controller.ensures c.rusts_set_mouse_sampling_rate-rusts.ensures c.set_mouse_sampling_rate-ours.ensures
