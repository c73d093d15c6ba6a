-- `ps2_keyboard::get_keyboard_scancode_set` meets its contract: the command and its byte, then the polls.
use native.Mathlib.Omega.{arith}
use Rattle.exchange.proofs.Counts.{counts}
use Rattle.ps2_answers.proofs.Then.{exit, first_steps, first_stops, then_reads_ends}
use Rattle.ps2_keyboard.specs.Keyboard.{get_scancode_set}
use Rattle.ps2_keyboard.specs.Parts.{set_search}
use Rattle.ps2_keyboard.proofs.get_keyboard_scancode_set.Goals as goal

pub returns-in_err-asked : goal.returns-in_err-asked
unfolding get_scancode_set
returns-in_err-asked c = rw (exit _ _ c.from_residual.ensures.1) (first_stops _ (λ _. set_search) _ _ _ c.in_err-asked.ensures)

pub returns : goal.returns
unfolding get_scancode_set
returns c =
    rw c.then.ensures
    (then_reads_ends (omega (arith, c.well_formed)) (omega (arith, c.well_formed)) c.in_ok-asked.asked _
    (first_steps _ (λ _. set_search) _ _ _ c.in_ok-asked.ensures) _ c.poll_scancode_set.ensures)

pub slice_bounds-poll_scancode_set-count : goal.slice_bounds-poll_scancode_set-count
slice_bounds-poll_scancode_set-count c = search (counts, c.in_ok-asked.ensures)

pub slice_bounds-poll_scancode_set-start : goal.slice_bounds-poll_scancode_set-start
slice_bounds-poll_scancode_set-start c = search (counts, c.in_ok-asked.ensures)
