-- `PS2Mouse::reset` meets its contract: the reads go on where the command ended.
use native.Mathlib.Omega.{arith}
use Rattle.exchange.proofs.Counts.{counts}
use Rattle.ps2_answers.proofs.Then.{exit, first_steps, first_stops, then_reads_ends}
use Rattle.ps2_mouse.specs.Mouse.{reset_mouse}
use Rattle.ps2_mouse.proofs.PS2Mouse.reset.Goals as goal

pub returns-in_err-accepted : goal.returns-in_err-accepted
unfolding reset_mouse
returns-in_err-accepted c = rw (exit _ _ c.from_residual.ensures.1) (first_stops _ _ _ _ _ c.in_err-accepted.ensures)

pub returns : goal.returns
unfolding reset_mouse
returns c =
    rw c.then.ensures
    (then_reads_ends (omega (arith, c.well_formed)) (omega (arith, c.well_formed)) c.in_ok-accepted.accepted _
    (first_steps _ _ _ _ _ c.in_ok-accepted.ensures) _ c.read_self_test_and_id.ensures)

pub slice_bounds-read_self_test_and_id-count : goal.slice_bounds-read_self_test_and_id-count
slice_bounds-read_self_test_and_id-count c = search (counts, c.in_ok-accepted.ensures)

pub slice_bounds-read_self_test_and_id-start : goal.slice_bounds-read_self_test_and_id-start
slice_bounds-read_self_test_and_id-start c = search (counts, c.in_ok-accepted.ensures)
