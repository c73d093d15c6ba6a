-- `polling_send` meets its contract: the invariant is how far the definition's repetition has come, with nothing written yet; a status read is one turn of it.
use mathlib.Core.Path.{◌≡◌}
use Rattle.exchange.specs.Answer.{refuses}
use Rattle.exchange.specs.Position.{Reached}
use Rattle.exchange.specs.Repeat.{repeat}
use Rattle.ps2_bytes.specs.Writable.{to_device}
use Rattle.ps2_polling.specs.Polling.{send_try, polling_send}
use Rattle.ps2_polling.proofs.polling_send.Given as goal

abbrev pub invariant-loop-tries : goal.invariant-loop-tries
invariant-loop-tries l =
    record { no_pairs : l.at.pairs ≡ 0; to : Reached (polling_send l.value) l.script l.initial.log (repeat l.tries (refuses 4) (send_try (to_device l.value))) l.at.used l.at.pairs l.log }

abbrev pub decreases-loop-tries : goal.decreases-loop-tries
decreases-loop-tries l = l.tries
