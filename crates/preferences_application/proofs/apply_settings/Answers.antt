-- `preferences_application::apply_settings` meets its contract: each turn of the loop sets the next setting.
use Prim.Native.Nat.{◌+◌}
use native.Mathlib.Omega.{arith}
use lib.ListN.{get_or, drop}
use Rattle.exchange.proofs.Position.{reached_same}
use Rattle.ps2_answers.proofs.Then.{exit, then_steps, then_stops, given_here}
use Rattle.preferences_application.specs.Application.{apply_setting, apply_settings}
use Rattle.preferences_application.proofs.Turns.{settings_next, settings_over}
use Rattle.preferences_application.proofs.apply_settings.Goals as goal

pub returns-in_err-done : goal.returns-in_err-done
returns-in_err-done c =
    let settings = c.args.settings in
    let i = c.loop-setting.setting-index in
    rw (exit _ _ c.from_residual.ensures.1)
    (then_stops (omega (arith, c.well_formed)) (omega (arith, c.well_formed)) c.loop-setting.done (apply_setting (get_or settings i _)) (λ _. apply_settings (drop (i + 1) settings))
    (reached_same c.loop-setting.invariant (settings_next settings i _ (omega arith))) _ c.apply_setting.ensures _ c.in_err-done.ensures)

pub loop-setting-preserved : goal.loop-setting-preserved
loop-setting-preserved c =
    let settings = c.args.settings in
    let i = c.loop-setting.setting-index in
    then_steps (omega (arith, c.well_formed)) (omega (arith, c.well_formed)) c.loop-setting.done (apply_setting (get_or settings i _)) (λ _. apply_settings (drop (i + 1) settings))
    (reached_same c.loop-setting.invariant (settings_next settings i _ (omega arith))) _ c.apply_setting.ensures _ c.in_ok-done.ensures

pub returns : goal.returns
returns c = given_here c.loop-setting.done (reached_same c.loop-setting.invariant (settings_over c.args.settings c.loop-setting.setting-index (omega arith)))
