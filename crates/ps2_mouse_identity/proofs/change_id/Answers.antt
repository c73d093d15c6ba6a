-- `change_id` meets its contract: the packets are started where an identity was found.
use native.Mathlib.Omega.{arith}
use Rattle.exchange.proofs.Counts.{counts}
use Rattle.ps2_answers.proofs.Then.{exit}
use Rattle.ps2_mouse_identity.proofs.Record.{set_refused, then_started}
use Rattle.ps2_mouse_identity.proofs.change_id.Goals as goal

pub returns-in_err-id : goal.returns-in_err-id
returns-in_err-id c = rw (exit _ _ c.from_residual.ensures.1) (set_refused c.args.mouse.now _ _ _ c.in_err-id.ensures)

pub returns : goal.returns
returns c =
    rw c.then.ensures
    (then_started c.args.mouse.now _ _ (omega (arith, c.well_formed)) (omega (arith, c.well_formed)) c.in_ok-id.id c.in_ok-id.ensures _ c.start_packets.ensures)

pub overflow_mul-tail : goal.overflow_mul-tail
overflow_mul-tail c = search (counts, c.in_ok-id.ensures)

pub slice_bounds-start_packets-count : goal.slice_bounds-start_packets-count
slice_bounds-start_packets-count c = search (counts, c.in_ok-id.ensures)

pub slice_bounds-start_packets-start : goal.slice_bounds-start_packets-start
slice_bounds-start_packets-start c = search (counts, c.in_ok-id.ensures)

pub slice_bounds-start_packets-count-2 : goal.slice_bounds-start_packets-count-2
slice_bounds-start_packets-count-2 c = search (counts, c.in_ok-id.ensures)

pub slice_bounds-start_packets-start-2 : goal.slice_bounds-start_packets-start-2
slice_bounds-start_packets-start-2 c = search (counts, c.in_ok-id.ensures)
