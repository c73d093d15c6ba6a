-- `identity_after` meets its contract: the identity is asked for where the rates ended.
use native.Mathlib.Omega.{arith}
use mathlib.Core.Path.{refl}
use Rattle.exchange.specs.Exchange.{Exchange, done, bind}
use Rattle.exchange.specs.Answer.{Answer, gives}
use Rattle.exchange.proofs.Told.{bind_told}
use Rattle.exchange.proofs.Counts.{counts}
use Rattle.std.specs.Prelude.{Option}
use Rattle.ps2_bytes.specs.declared.response.MouseId.{MouseId}
use Rattle.ps2_answers.specs.Refusals.{Success}
use Rattle.ps2_answers.proofs.Then.{exit, first_steps, first_stops, then_ends}
use Rattle.ps2_mouse.specs.Mouse.{mouse_id}
use Rattle.ps2_mouse_identity.specs.Identity.{set_rates, identity_if_read, read_id}
use Rattle.ps2_mouse_identity.proofs.identity_after.Goals as goal

abbrev asking : Success → Exchange (Answer (Option MouseId))
asking _ = bind mouse_id (λ id. done (gives (read_id id)))

pub returns-in_err-set : goal.returns-in_err-set
unfolding identity_if_read
returns-in_err-set c = rw (exit _ _ c.from_residual.ensures.1) (first_stops (set_rates c.args.rates) asking _ _ _ c.in_err-set.ensures)

pub returns : goal.returns
unfolding identity_if_read
returns c =
    rw c.then.ensures
    (then_ends (omega (arith, c.well_formed)) (omega (arith, c.well_formed)) c.in_ok-set.set _
    (first_steps (set_rates c.args.rates) asking _ _ _ c.in_ok-set.ensures) c.forgiven.result
    (rw (c.forgiven.ensures.end, c.forgiven.ensures.used, c.forgiven.ensures.pairs) (bind_told mouse_id (λ id. gives (read_id id)) _ _ c.mouse_id.ensures refl)))

pub overflow_mul-tail : goal.overflow_mul-tail
overflow_mul-tail c = search (counts, c.in_ok-set.ensures)

pub slice_bounds-mouse_id-count : goal.slice_bounds-mouse_id-count
slice_bounds-mouse_id-count c = search (counts, c.in_ok-set.ensures)

pub slice_bounds-mouse_id-start : goal.slice_bounds-mouse_id-start
slice_bounds-mouse_id-start c = search (counts, c.in_ok-set.ensures)

pub slice_bounds-mouse_id-count-2 : goal.slice_bounds-mouse_id-count-2
slice_bounds-mouse_id-count-2 c = search (counts, c.in_ok-set.ensures)

pub slice_bounds-mouse_id-start-2 : goal.slice_bounds-mouse_id-start-2
slice_bounds-mouse_id-start-2 c = search (counts, c.in_ok-set.ensures)
