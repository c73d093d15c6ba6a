-- `read_self_test_and_id` meets its contract: one byte more is read where the self test passed.
use native.Mathlib.Omega.{arith}
use Rattle.exchange.proofs.Position.{reads_used_le}
use Rattle.ps2_answers.proofs.Then.{exit}
use Rattle.ps2_answers.proofs.Reading.{read_first, read_first_stops, read_then_ends}
use Rattle.ps2_mouse.proofs.read_self_test_and_id.Goals as goal

pub slice_bounds-flush_output_buffer-count : goal.slice_bounds-flush_output_buffer-count
slice_bounds-flush_output_buffer-count c = reads_used_le c.in_ok-passed.ensures

pub slice_bounds-flush_output_buffer-start : goal.slice_bounds-flush_output_buffer-start
slice_bounds-flush_output_buffer-start c = reads_used_le c.in_ok-passed.ensures

pub returns-in_err-passed : goal.returns-in_err-passed
returns-in_err-passed c = rw (exit _ _ c.from_residual.ensures.1) (read_first_stops _ _ _ _ c.in_err-passed.ensures)

pub returns : goal.returns
returns c =
    rw c.then.ensures
    (read_then_ends (omega (arith, c.well_formed)) c.in_ok-passed.passed (read_first _ _ _ _ c.in_ok-passed.ensures) _ c.flush_output_buffer.ensures)
