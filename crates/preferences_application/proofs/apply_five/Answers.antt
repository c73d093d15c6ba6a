-- `preferences_application::apply_five` meets its contract: the four fields, then the repeat byte.
use native.Mathlib.Omega.{arith}
use mathlib.Core.Path.{refl}
use Rattle.exchange.proofs.Counts.{counts}
use Rattle.ps2_answers.proofs.Then.{exit, first_steps, first_stops, then_ends}
use Rattle.preferences_application.specs.Application.{set_keyboard_repeat}
use Rattle.preferences_application.proofs.Steps.{plays_two}
use Rattle.preferences_application.proofs.apply_five.Goals as goal

pub returns-in_err-applied : goal.returns-in_err-applied
returns-in_err-applied c =
    let a = c.args in
    rw (exit _ _ c.from_residual.ensures.1)
    (plays_two a.four a.again _ _ refl (first_stops _ (λ _. set_keyboard_repeat a.again) _ _ _ c.in_err-applied.ensures))

pub returns : goal.returns
returns c =
    let a = c.args in
    rw c.then.ensures
    (plays_two a.four a.again _ _ c.byte_of.ensures
    (then_ends (omega (arith, c.well_formed)) (omega (arith, c.well_formed)) c.in_ok-applied.applied (set_keyboard_repeat c.byte_of.result)
    (first_steps _ (λ _. set_keyboard_repeat c.byte_of.result) _ _ _ c.in_ok-applied.ensures) _ c.set_keyboard_repeat.ensures))

pub overflow_mul-tail : goal.overflow_mul-tail
overflow_mul-tail c = search (counts, c.in_ok-applied.ensures)

pub slice_bounds-set_keyboard_repeat-count : goal.slice_bounds-set_keyboard_repeat-count
slice_bounds-set_keyboard_repeat-count c = search (counts, c.in_ok-applied.ensures)

pub slice_bounds-set_keyboard_repeat-start : goal.slice_bounds-set_keyboard_repeat-start
slice_bounds-set_keyboard_repeat-start c = search (counts, c.in_ok-applied.ensures)

pub slice_bounds-set_keyboard_repeat-count-2 : goal.slice_bounds-set_keyboard_repeat-count-2
slice_bounds-set_keyboard_repeat-count-2 c = search (counts, c.in_ok-applied.ensures)

pub slice_bounds-set_keyboard_repeat-start-2 : goal.slice_bounds-set_keyboard_repeat-start-2
slice_bounds-set_keyboard_repeat-start-2 c = search (counts, c.in_ok-applied.ensures)
