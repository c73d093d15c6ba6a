-- `read_test_result` meets its contract: the invariant is how far the definition's repetition has come.
use Prim.Native.Nat.{ℕ}
use Rattle.exchange.specs.Exchange.{Exchange}
use Rattle.exchange.specs.Answer.{Answer, refuses}
use Rattle.exchange.specs.Repeat.{repeat}
use Rattle.ps2_answers.specs.declared.Failure.{Failure}
use Rattle.ps2_answers.specs.Refusals.{Success, number_of}
use Rattle.ps2_answers.proofs.Reading.{Read}
use Rattle.ps2_polling.specs.declared.Waiting.{Waiting}
use Rattle.ps2_polling.specs.Polling.{turn_of, passed_turn}
use Rattle.ps2_polling.proofs.read_test_result.Given as goal

-- the wait with so many turns left
abbrev pub wait : Waiting → ℕ → Failure → ℕ → Exchange (Answer Success)
wait waiting passed failure turns = repeat turns (refuses (number_of failure)) (turn_of waiting (passed_turn passed))

abbrev pub invariant-loop-left : goal.invariant-loop-left
invariant-loop-left l = Read (wait l.waiting l.passed l.failure l.turns) l.script (wait l.waiting l.passed l.failure l.left) l.at.used l.at.pairs

abbrev pub decreases-loop-left : goal.decreases-loop-left
decreases-loop-left l = l.left
