-- The two agree, since each tells the operation's play: ours onto nothing kept, which is what the operation keeps.
use mathlib.Core.Path.{sym}
use native.Mathlib.Omega.{arith}
use Rattle.ps2_kept.proofs.Thrown.{keeping_thrown_lem}
use Rattle.ps2_polling.proofs.Bounds.{within_send_receive}
use Rattle.ps2_polling.specs.Polling.{polling_send_receive}
use Rattle.theseus_ps2.proofs.Agreed.{agree_kept}
use Rattle.theseus_ps2.proofs.both_controller.both_polling_send_receive.Goals as goal

pub returns : goal.returns
returns c =
    let p = rw c.none_kept-kept.ensures at c.polling_send_receive-answer.ensures in
    agree_kept (polling_send_receive c.args.value) _ _ _ _ c.start-controller.ensures c.polling_send_receive-rusts.ensures (within_send_receive c.args.value) (omega arith) _
    (record { plays = rw (sym (keeping_thrown_lem (within_send_receive c.args.value) (omega arith))) at p.plays; ended = p.ended })
