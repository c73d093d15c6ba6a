-- The two agree, since each tells the operation's play.
use native.Mathlib.Omega.{arith}
use Rattle.ps2_polling.proofs.Bounds.{within_receive}
use Rattle.ps2_polling.specs.Polling.{polling_receive}
use Rattle.theseus_ps2.proofs.Agreed.{agree_reads_kept}
use Rattle.theseus_ps2.proofs.both_controller.both_polling_receive.Goals as goal

pub returns : goal.returns
returns c = agree_reads_kept polling_receive _ _ _ _ c.start-controller.ensures c.polling_receive-rusts.ensures within_receive (omega arith) _ c.polling_receive-ours.ensures
