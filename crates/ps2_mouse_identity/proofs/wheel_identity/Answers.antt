-- `wheel_identity` meets its contract: each identity that was read, and none, is followed by its own.
use native.Mathlib.Omega.{arith}
use mathlib.Core.Path.{◌≡◌, ap, ◌∙◌}
use Rattle.std.specs.Prelude.{Some}
use Rattle.exchange.proofs.Counts.{counts}
use Rattle.exchange.proofs.Position.{reached_same, reached_done}
use Rattle.ps2_bytes.specs.declared.response.MouseId.TheVariants.{Zero, Three, Four}
use Rattle.ps2_answers.proofs.Then.{exit, first_steps, first_stops, then_ends, given_here}
use Rattle.ps2_mouse_identity.specs.Identity.{identity_if_read, wheel_rates}
use Rattle.ps2_mouse_identity.proofs.Forgives.{after_read, first_grouped}
use Rattle.ps2_mouse_identity.proofs.wheel_identity.Goals as goal

pub returns-in_err-first : goal.returns-in_err-first
returns-in_err-first c =
    let old = c.args.old in
    rw (exit _ _ c.from_residual.ensures.1) (first_grouped old _ _ (first_stops (identity_if_read wheel_rates) (after_read old) _ _ _ c.in_err-first.ensures))

pub returns-in-None : goal.returns-in-None
returns-in-None c =
    let old = c.args.old in
    rw c.with.ensures
    (first_grouped old _ _ (given_here _ (reached_same (first_steps (identity_if_read wheel_rates) (after_read old) _ _ _ c.in_ok-first.ensures)
    (ap (after_read old) c.in-None.is))))

pub returns-in-Some-Zero : goal.returns-in-Some-Zero
returns-in-Some-Zero c =
    let old = c.args.old in
    let is : c.in-Some-Zero.field-0 ≡ Zero = rw c.in-Some-Zero.is at c.in-Some-Zero.field-0-is in
    rw c.with-in-Some-Zero.ensures
    (first_grouped old _ _ (given_here _ (reached_same (first_steps (identity_if_read wheel_rates) (after_read old) _ _ _ c.in_ok-first.ensures)
    (ap (after_read old) (c.in-Some-Zero.is ∙ ap (λ id. Some id) is)))))

pub returns-in-Some-Three : goal.returns-in-Some-Three
returns-in-Some-Three c =
    let old = c.args.old in
    let is : c.in-Some-Three.field-0 ≡ Three = rw c.in-Some-Three.is at c.in-Some-Three.field-0-is in
    rw c.then.ensures
    (first_grouped old _ _
    (then_ends (omega (arith, c.well_formed)) (omega (arith, c.well_formed)) c.in_ok-first.first _
    (reached_same (first_steps (identity_if_read wheel_rates) (after_read old) _ _ _ c.in_ok-first.ensures)
    (ap (after_read old) (c.in-Some-Three.is ∙ ap (λ id. Some id) is))) _ c.button_identity.ensures))

pub returns-in-Some-Four : goal.returns-in-Some-Four
returns-in-Some-Four c =
    let old = c.args.old in
    let is : c.in-Some-Four.field-0 ≡ Four = rw c.in-Some-Four.is at c.in-Some-Four.field-0-is in
    rw c.with-in-Some-Four.ensures
    (first_grouped old _ _ (reached_done (reached_same (first_steps (identity_if_read wheel_rates) (after_read old) _ _ _ c.in_ok-first.ensures)
    (ap (after_read old) (c.in-Some-Four.is ∙ ap (λ id. Some id) is)))))

pub overflow_mul-tail : goal.overflow_mul-tail
overflow_mul-tail c = search (counts, c.in_ok-first.ensures)

pub slice_bounds-button_identity-count : goal.slice_bounds-button_identity-count
slice_bounds-button_identity-count c = search (counts, c.in_ok-first.ensures)

pub slice_bounds-button_identity-start : goal.slice_bounds-button_identity-start
slice_bounds-button_identity-start c = search (counts, c.in_ok-first.ensures)

pub slice_bounds-button_identity-count-in-Some-Three : goal.slice_bounds-button_identity-count-in-Some-Three
slice_bounds-button_identity-count-in-Some-Three c = search (counts, c.in_ok-first.ensures)

pub slice_bounds-button_identity-start-in-Some-Three : goal.slice_bounds-button_identity-start-in-Some-Three
slice_bounds-button_identity-start-in-Some-Three c = search (counts, c.in_ok-first.ensures)
