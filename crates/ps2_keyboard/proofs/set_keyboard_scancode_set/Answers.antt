-- `ps2_keyboard::set_keyboard_scancode_set` meets its contract: the command and its byte, then the question for the set, whatever its answer.
use native.Mathlib.Omega.{arith}
use Rattle.exchange.specs.Answer.{gives, and_then}
use Rattle.exchange.specs.Exchange.{done}
use Rattle.exchange.proofs.Counts.{counts}
use Rattle.ps2_answers.specs.Refusals.{success}
use Rattle.ps2_answers.proofs.Then.{exit, first_steps, first_stops, then_steps, then_stops, given_here}
use Rattle.ps2_keyboard.specs.Keyboard.{get_scancode_set, set_scancode_set}
use Rattle.ps2_keyboard.proofs.set_keyboard_scancode_set.Goals as goal

pub returns-in_err-chosen : goal.returns-in_err-chosen
unfolding set_scancode_set
returns-in_err-chosen c =
    rw (exit _ _ c.from_residual.ensures.1) (first_stops _ (λ _. and_then get_scancode_set (λ _. done (gives success))) _ _ _ c.in_err-chosen.ensures)

pub returns-in_err-told : goal.returns-in_err-told
unfolding set_scancode_set
returns-in_err-told c =
    rw (exit _ _ c.from_residual-in_err-told.ensures.1)
    (then_stops (omega (arith, c.well_formed)) (omega (arith, c.well_formed)) c.in_ok-chosen.chosen get_scancode_set (λ _. done (gives success))
    (first_steps _ (λ _. and_then get_scancode_set (λ _. done (gives success))) _ _ _ c.in_ok-chosen.ensures) _ c.get_keyboard_scancode_set.ensures _ c.in_err-told.ensures)

pub returns : goal.returns
unfolding set_scancode_set
returns c =
    rw c.with.ensures
    (given_here _
    (then_steps (omega (arith, c.well_formed)) (omega (arith, c.well_formed)) c.in_ok-chosen.chosen get_scancode_set (λ _. done (gives success))
    (first_steps _ (λ _. and_then get_scancode_set (λ _. done (gives success))) _ _ _ c.in_ok-chosen.ensures) _ c.get_keyboard_scancode_set.ensures _ c.in_ok-told.ensures))

pub overflow_mul-tail : goal.overflow_mul-tail
overflow_mul-tail c = search (counts, c.in_ok-chosen.ensures)

pub slice_bounds-get_keyboard_scancode_set-count : goal.slice_bounds-get_keyboard_scancode_set-count
slice_bounds-get_keyboard_scancode_set-count c = search (counts, c.in_ok-chosen.ensures)

pub slice_bounds-get_keyboard_scancode_set-start : goal.slice_bounds-get_keyboard_scancode_set-start
slice_bounds-get_keyboard_scancode_set-start c = search (counts, c.in_ok-chosen.ensures)

pub slice_bounds-get_keyboard_scancode_set-count-2 : goal.slice_bounds-get_keyboard_scancode_set-count-2
slice_bounds-get_keyboard_scancode_set-count-2 c = search (counts, c.in_ok-chosen.ensures)

pub slice_bounds-get_keyboard_scancode_set-start-2 : goal.slice_bounds-get_keyboard_scancode_set-start-2
slice_bounds-get_keyboard_scancode_set-start-2 c = search (counts, c.in_ok-chosen.ensures)
