-- `receive_mouse_id` meets its contract: each turn of the loop is one poll on what is left.
use native.Mathlib.Omega.{arith}
use mathlib.Core.Path.{ap}
use Rattle.ps2_answers.proofs.Then.{exit}
use Rattle.ps2_answers.proofs.Reading.{turns_over, turn_again, turn_found, turn_stops}
use Rattle.ps2_mouse.specs.Answers.{identified}
use Rattle.ps2_mouse.proofs.receive_mouse_id.Goals as goal

pub returns-in_err-at : goal.returns-in_err-at
returns-in_err-at c =
    let r = c.poll_mouse_id.ensures in
    rw (exit _ _ c.from_residual.ensures.1)
    (turn_stops (omega (arith, c.well_formed)) c.loop-polls.at _ _ _ c.loop-polls.invariant identified _ r r.no_pairs _ c.in_err-at.ensures (omega arith))

pub returns-then-polls-eq0 : goal.returns-then-polls-eq0
returns-then-polls-eq0 c = rw c.with.ensures (turns_over (omega (arith, c.well_formed)) c.loop-polls.at _ _ _ c.loop-polls.invariant (omega arith))

pub returns-in-Some : goal.returns-in-Some
returns-in-Some c =
    let r = c.poll_mouse_id.ensures in
    rw c.with-in-Some.ensures
    (turn_found (omega (arith, c.well_formed)) c.loop-polls.at _ _ _ c.loop-polls.invariant identified _ r r.no_pairs _ c.in_ok-at.ensures (omega arith) (ap identified c.in-Some.is))

pub loop-polls-preserved : goal.loop-polls-preserved
loop-polls-preserved c =
    let r = c.poll_mouse_id.ensures in
    turn_again (omega (arith, c.well_formed)) c.loop-polls.at _ _ _ c.loop-polls.invariant identified _ r r.no_pairs _ c.in_ok-at.ensures _ (omega arith) (ap identified c.in_default.is)
