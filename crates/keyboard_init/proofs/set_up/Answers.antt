-- `keyboard_init::set_up` meets its contract: the detection, then the scancode set on what it left.
use native.Mathlib.Omega.{arith}
use Rattle.exchange.specs.Answer.{and_then}
use Rattle.exchange.proofs.Counts.{counts}
use Rattle.ps2_bytes.specs.declared.data.ScancodeSet.TheVariants.{Set1}
use Rattle.ps2_answers.proofs.Then.{exit, first_steps, first_stops, then_ends}
use Rattle.ps2_keyboard.specs.Keyboard.{set_scancode_set}
use Rattle.keyboard_init.specs.KeyboardInit.{detection, keyboard_init}
use Rattle.keyboard_init.proofs.set_up.Goals as goal

pub overflow_mul-tail : goal.overflow_mul-tail
overflow_mul-tail c = search (counts, c.in_ok-detected.ensures)

pub slice_bounds-set_keyboard_scancode_set-count : goal.slice_bounds-set_keyboard_scancode_set-count
slice_bounds-set_keyboard_scancode_set-count c = search (counts, c.in_ok-detected.ensures)

pub slice_bounds-set_keyboard_scancode_set-start : goal.slice_bounds-set_keyboard_scancode_set-start
slice_bounds-set_keyboard_scancode_set-start c = search (counts, c.in_ok-detected.ensures)

pub slice_bounds-set_keyboard_scancode_set-count-2 : goal.slice_bounds-set_keyboard_scancode_set-count-2
slice_bounds-set_keyboard_scancode_set-count-2 c = search (counts, c.in_ok-detected.ensures)

pub slice_bounds-set_keyboard_scancode_set-start-2 : goal.slice_bounds-set_keyboard_scancode_set-start-2
slice_bounds-set_keyboard_scancode_set-start-2 c = search (counts, c.in_ok-detected.ensures)

pub returns-in_err-detected : goal.returns-in_err-detected
unfolding keyboard_init and_then
returns-in_err-detected c =
    rw (exit _ _ c.from_residual.ensures.1) (first_stops detection (λ _. set_scancode_set Set1) _ _ _ c.in_err-detected.ensures)

pub returns : goal.returns
unfolding keyboard_init and_then
returns c =
    rw c.then.ensures
    (then_ends (omega (arith, c.well_formed)) (omega (arith, c.well_formed)) c.in_ok-detected.detected _
    (first_steps detection (λ _. set_scancode_set Set1) _ _ _ c.in_ok-detected.ensures) _ c.set_keyboard_scancode_set.ensures)
