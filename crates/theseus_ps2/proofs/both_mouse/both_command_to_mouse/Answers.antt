-- The two agree, since each tells the operation's play.
use native.Mathlib.Omega.{arith}
use Rattle.ps2_mouse.proofs.Bounds.{within_mouse}
use Rattle.ps2_mouse.specs.Mouse.{command_to_mouse}
use Rattle.theseus_ps2.proofs.Agreed.{agree_kept}
use Rattle.theseus_ps2.proofs.both_mouse.both_command_to_mouse.Goals as goal

pub returns : goal.returns
returns c = agree_kept (command_to_mouse c.args.value) _ _ _ _ c.start-controller.ensures c.rusts_command_to_mouse-rusts.ensures (within_mouse c.args.value) (omega arith) _ c.command_to_mouse-ours.ensures
