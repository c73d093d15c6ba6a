-- `new_identity` meets its contract: the rates follow where the packets are stopped.
use native.Mathlib.Omega.{arith}
use Rattle.exchange.proofs.Counts.{counts}
use Rattle.ps2_answers.proofs.Then.{exit, first_steps, first_stops, then_ends}
use Rattle.ps2_mouse_identity.specs.Identity.{new_identity}
use Rattle.ps2_mouse_identity.proofs.new_identity.Goals as goal

pub returns-in_err-stopped : goal.returns-in_err-stopped
unfolding new_identity
returns-in_err-stopped c = rw (exit _ _ c.from_residual.ensures.1) (first_stops _ _ _ _ _ c.in_err-stopped.ensures)

pub returns : goal.returns
unfolding new_identity
returns c =
    rw c.then.ensures
    (then_ends (omega (arith, c.well_formed)) (omega (arith, c.well_formed)) c.in_ok-stopped.stopped _
    (first_steps _ _ _ _ _ c.in_ok-stopped.ensures) _ c.wheel_identity.ensures)

pub overflow_mul-tail : goal.overflow_mul-tail
overflow_mul-tail c = search (counts, c.in_ok-stopped.ensures)

pub slice_bounds-wheel_identity-count : goal.slice_bounds-wheel_identity-count
slice_bounds-wheel_identity-count c = search (counts, c.in_ok-stopped.ensures)

pub slice_bounds-wheel_identity-start : goal.slice_bounds-wheel_identity-start
slice_bounds-wheel_identity-start c = search (counts, c.in_ok-stopped.ensures)

pub slice_bounds-wheel_identity-count-2 : goal.slice_bounds-wheel_identity-count-2
slice_bounds-wheel_identity-count-2 c = search (counts, c.in_ok-stopped.ensures)

pub slice_bounds-wheel_identity-start-2 : goal.slice_bounds-wheel_identity-start-2
slice_bounds-wheel_identity-start-2 c = search (counts, c.in_ok-stopped.ensures)
