-- `ps2_keyboard::reset_keyboard` meets its contract: the command, then the reads for an AA of the reset's own.
use native.Mathlib.Omega.{arith}
use Rattle.exchange.proofs.Counts.{counts}
use Rattle.ps2_kept.proofs.Contracts.{plays_forgets}
use Rattle.ps2_answers.proofs.Then.{exit, first_steps, first_stops, then_reads_ends}
use Rattle.ps2_command.specs.Search.{self_test_within}
use Rattle.ps2_keyboard.specs.Keyboard.{reset_reads, reset_keyboard}
use Rattle.ps2_keyboard.proofs.reset_keyboard.Goals as goal

pub returns-in_err-sent : goal.returns-in_err-sent
unfolding reset_keyboard
returns-in_err-sent c =
    rw (exit _ _ c.from_residual.ensures.1)
    (first_stops _ (λ _. self_test_within reset_reads) _ _ c.in_err-sent.field-0.0 (rw c.in_err-sent.was at (plays_forgets _ c.command_to_keyboard.ensures)))

pub returns : goal.returns
unfolding reset_keyboard
returns c =
    rw c.then.ensures
    (then_reads_ends (omega (arith, c.well_formed)) (omega (arith, c.well_formed)) c.in_ok-sent.sent _
    (first_steps _ (λ _. self_test_within reset_reads) _ _ c.in_ok-sent.sent (rw c.in_ok-sent.was at (plays_forgets _ c.command_to_keyboard.ensures))) _
    c.read_self_test_result.ensures)

pub slice_bounds-read_self_test_result-count : goal.slice_bounds-read_self_test_result-count
slice_bounds-read_self_test_result-count c = search (counts, rw c.in_ok-sent.was at (plays_forgets _ c.command_to_keyboard.ensures))

pub slice_bounds-read_self_test_result-start : goal.slice_bounds-read_self_test_result-start
slice_bounds-read_self_test_result-start c = search (counts, rw c.in_ok-sent.was at (plays_forgets _ c.command_to_keyboard.ensures))
