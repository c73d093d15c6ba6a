-- `PS2Mouse::mouse_id` meets its contract: the reads go on where the command ended.
use native.Mathlib.Omega.{arith}
use Rattle.exchange.proofs.Counts.{counts}
use Rattle.ps2_answers.proofs.Then.{exit, first_steps, first_stops, then_reads_ends}
use Rattle.ps2_mouse.specs.Mouse.{mouse_id}
use Rattle.ps2_mouse.proofs.PS2Mouse.mouse_id.Goals as goal

pub returns-in_err-accepted : goal.returns-in_err-accepted
unfolding mouse_id
returns-in_err-accepted c = rw (exit _ _ c.from_residual.ensures.1) (first_stops _ _ _ _ _ c.in_err-accepted.ensures)

pub returns : goal.returns
unfolding mouse_id
returns c =
    rw c.then.ensures
    (then_reads_ends (omega (arith, c.well_formed)) (omega (arith, c.well_formed)) c.in_ok-accepted.accepted _
    (first_steps _ _ _ _ _ c.in_ok-accepted.ensures) _ c.receive_mouse_id.ensures)

pub slice_bounds-receive_mouse_id-count : goal.slice_bounds-receive_mouse_id-count
slice_bounds-receive_mouse_id-count c = search (counts, c.in_ok-accepted.ensures)

pub slice_bounds-receive_mouse_id-start : goal.slice_bounds-receive_mouse_id-start
slice_bounds-receive_mouse_id-start c = search (counts, c.in_ok-accepted.ensures)
