-- `read_test_result` meets its contract: the invariant is how far the definition's repetition has come.
use native.Mathlib.Omega.{arith}
use Rattle.std.proofs.Common.{rules}
use Rattle.ps2_answers.proofs.Then.{exit}
use Rattle.ps2_answers.proofs.Reading.{turns_over, turn_again, turn_found, turn_stops}
use Rattle.ps2_polling.specs.Polling.{passed_turn}
use Rattle.ps2_polling.proofs.Polls.{of_poll, taken_turn, passed_heard, passed_unheard}
use Rattle.ps2_polling.proofs.read_test_result.Goals as goal

pub returns-in_err-at : goal.returns-in_err-at
returns-in_err-at c =
    let v = c.args in
    let r = c.take_turn.ensures in
    rw (exit _ _ c.from_residual.ensures.1)
    (turn_stops (omega (arith, c.well_formed)) c.loop-left.at _ _ _ c.loop-left.invariant (of_poll (passed_turn v.passed)) _ (taken_turn (passed_turn v.passed) v.waiting _ _ r) r.no_pairs
    _ c.in_err-at.ensures (omega arith))

pub returns-then-left-eq0 : goal.returns-then-left-eq0
returns-then-left-eq0 c = rw c.with.ensures (turns_over (omega (arith, c.well_formed)) c.loop-left.at _ _ _ c.loop-left.invariant (omega arith))

pub returns-then-eq : goal.returns-then-eq
returns-then-eq c =
    let v = c.args in
    let r = c.take_turn.ensures in
    rw c.with-then-eq.ensures
    (turn_found (omega (arith, c.well_formed)) c.loop-left.at _ _ _ c.loop-left.invariant (of_poll (passed_turn v.passed)) _ (taken_turn (passed_turn v.passed) v.waiting _ _ r) r.no_pairs
    _ c.in_ok-at.ensures (omega arith) (passed_heard v.passed _ c.if-eq.ensures))

pub loop-left-preserved : goal.loop-left-preserved
loop-left-preserved c =
    let v = c.args in
    let r = c.take_turn.ensures in
    turn_again (omega (arith, c.well_formed)) c.loop-left.at _ _ _ c.loop-left.invariant (of_poll (passed_turn v.passed)) _ (taken_turn (passed_turn v.passed) v.waiting _ _ r) r.no_pairs
    _ c.in_ok-at.ensures _ (omega arith) (passed_unheard v.passed _ (search rules))
