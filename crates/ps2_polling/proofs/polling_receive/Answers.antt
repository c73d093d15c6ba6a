-- `polling_receive` meets its contract: a receiving onto nothing; what was kept is handed back, and nothing after a lack.
use native.Mathlib.Omega.{arith}
use Rattle.ps2_answers.specs.Answers.{ended}
use Rattle.ps2_kept.proofs.Contracts.{reads_handed, reads_from_nothing}
use Rattle.ps2_polling.proofs.Bounds.{within_receive}
use Rattle.ps2_polling.proofs.polling_receive.Goals as goal

pub returns : goal.returns
returns c =
    reads_from_nothing within_receive (omega arith) c.none_kept-kept.ensures
    (reads_handed (ended c.polling_receive_keeping-answer.result) _ c.after.ensures c.polling_receive_keeping-answer.ensures)
