-- `set_rates` meets its contract: each turn of the loop sets the next rate.
use native.Mathlib.Omega.{arith}
use Prim.Native.Nat.{◌+◌}
use lib.ListN.{get_or, drop}
use Rattle.exchange.proofs.Position.{reached_same}
use Rattle.ps2_answers.proofs.Then.{exit, then_steps, then_stops, given_here}
use Rattle.ps2_mouse.specs.Mouse.{set_sampling_rate}
use Rattle.ps2_mouse_identity.specs.Identity.{set_rates}
use Rattle.ps2_mouse_identity.proofs.Rates.{rates_next, rates_over}
use Rattle.ps2_mouse_identity.proofs.set_rates.Goals as goal

pub returns-in_err-done : goal.returns-in_err-done
returns-in_err-done c =
    let rates = c.args.rates in
    let i = c.loop-rate.rate-index in
    rw (exit _ _ c.from_residual.ensures.1)
    (then_stops (omega (arith, c.well_formed)) (omega (arith, c.well_formed)) c.loop-rate.done (set_sampling_rate (get_or rates i _)) (λ _. set_rates (drop (i + 1) rates))
    (reached_same c.loop-rate.invariant (rates_next rates i _ (omega arith))) _ c.set_mouse_sampling_rate.ensures _ c.in_err-done.ensures)

pub loop-rate-preserved : goal.loop-rate-preserved
loop-rate-preserved c =
    let rates = c.args.rates in
    let i = c.loop-rate.rate-index in
    then_steps (omega (arith, c.well_formed)) (omega (arith, c.well_formed)) c.loop-rate.done (set_sampling_rate (get_or rates i _)) (λ _. set_rates (drop (i + 1) rates))
    (reached_same c.loop-rate.invariant (rates_next rates i _ (omega arith))) _ c.set_mouse_sampling_rate.ensures _ c.in_ok-done.ensures

pub returns : goal.returns
returns c = given_here c.loop-rate.done (reached_same c.loop-rate.invariant (rates_over c.args.rates c.loop-rate.rate-index (omega arith)))
