-- The two agree, since each tells the operation's play.
use Rattle.ps2_mouse.specs.Mouse.{reset_mouse}
use Rattle.theseus_ps2.proofs.Agreed.{agree_run}
use Rattle.theseus_ps2.proofs.both_mouse.both_reset_mouse.Goals as goal

pub returns : goal.returns
returns c = agree_run reset_mouse _ _ _ _ c.start-controller.ensures c.rusts_reset_mouse-rusts.ensures c.reset-ours.ensures
