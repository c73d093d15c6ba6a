-- The two agree, since each tells the operation's play.
use Rattle.ps2_mouse.specs.Mouse.{mouse_id}
use Rattle.theseus_ps2.proofs.Agreed.{agree_run}
use Rattle.theseus_ps2.proofs.both_mouse.both_mouse_id.Goals as goal

pub returns : goal.returns
returns c = agree_run mouse_id _ _ _ _ c.start-controller.ensures c.rusts_mouse_id-rusts.ensures c.mouse_id-ours.ensures
