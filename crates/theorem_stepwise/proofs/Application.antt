-- The talk of preferences is its tree.
use Prim.Native.Nat.{ℕ}
use mathlib.Core.Bool.{Bool, true, false, cond}
use mathlib.Core.Path.{◌≡◌, sym, ◌∙◌}
use Rattle.exchange.specs.Exchange.{done}
use Rattle.exchange.specs.Answer.{refuses}
use Rattle.ps2_ports.specs.declared.DevicePort.TheVariants.{Port1}
use Rattle.ps2_answers.specs.declared.Failure.TheVariants.{FieldOutsideValues}
use Rattle.preferences.specs.declared.Fields.{Fields}
use Rattle.preferences.specs.declared.Preferences.{Preferences}
use Rattle.preferences.specs.declared.Preferences.TheVariants.{Version1, Version2}
use Rattle.preferences.specs.Record.{within_values}
use Rattle.preferences_application.specs.Settings.{set_of, rate_of, resolution_of, lamps_of, four_settings, settings_of}
use Rattle.preferences_application.specs.Application.{apply_settings, apply_preferences}
use Rattle.preferences_application.proofs.Steps.{field_order, version_two_steps}
use Rattle.std.specs.Prelude.{Err}
use Rattle.talks.specs.Talk.{next, tells, answering}
use Rattle.talks.specs.Keyboard.{set_scancode_set, set_port_led, set_keyboard_repeat}
use Rattle.talks.specs.Mouse.{set_sampling_rate, set_resolution}
use Rattle.talks.specs.Application as talk
use Rattle.theorem_stepwise.proofs.Trees.{answering_next, answering_tells}
use Rattle.theorem_stepwise.proofs.Keyboard.{answering_keyboard_led, answering_set_set, answering_repeat}
use Rattle.theorem_stepwise.proofs.Mouse.{answering_rate, answering_resolution}

applies_four : (four : Fields) → answering (talk.apply_four four) ≡ apply_settings (four_settings four)
unfolding talk.apply_four
applies_four four =
    answering_next (set_scancode_set (set_of four.set)) _
    (λ _. next (set_sampling_rate (rate_of four.rate)) (λ _. next (set_resolution (resolution_of four.resolution)) (λ _. set_port_led Port1 (lamps_of four.lamps)))) _ (answering_set_set (set_of four.set))
    (λ _. answering_next (set_sampling_rate (rate_of four.rate)) _ (λ _. next (set_resolution (resolution_of four.resolution)) (λ _. set_port_led Port1 (lamps_of four.lamps))) _ (answering_rate (rate_of four.rate))
    (λ _. answering_next (set_resolution (resolution_of four.resolution)) _ (λ _. set_port_led Port1 (lamps_of four.lamps)) _ (answering_resolution (resolution_of four.resolution))
    (λ _. answering_keyboard_led (lamps_of four.lamps))))
    ∙ sym (field_order four)

applies_within : (p : Preferences) → answering (talk.apply_within p) ≡ apply_settings (settings_of p)
applies_within (Version1 four) = applies_four four
applies_within (Version2 four again) =
    answering_next (talk.apply_four four) _ (λ _. set_keyboard_repeat again) _ (applies_four four) (λ _. answering_repeat again) ∙ sym (version_two_steps four again)

applies : (v : Bool) (p : Preferences) → answering (talk.apply_if v p) ≡ cond v (apply_settings (settings_of p)) (done (refuses 28))
applies true p = applies_within p
applies false p = answering_tells (Err FieldOutsideValues)

pub answering_preferences : (p : Preferences) → answering (talk.apply_preferences p) ≡ apply_preferences p
unfolding talk.apply_preferences apply_preferences
answering_preferences p = applies (within_values p) p
