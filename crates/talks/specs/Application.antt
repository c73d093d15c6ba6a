-- Preferences applied to the devices, as a talk.
use Rattle.std.specs.Prelude.{Bool, true, false, Result, Ok, Err}
use Rattle.ps2_ports.specs.declared.DevicePort.TheVariants.{Port1}
use Rattle.ps2_answers.specs.Refusals.{Success}
use Rattle.ps2_answers.specs.declared.Failure.TheVariants.{FieldOutsideValues}
use Rattle.preferences.specs.declared.Fields.{Fields}
use Rattle.preferences.specs.declared.Preferences.{Preferences}
use Rattle.preferences.specs.declared.Preferences.TheVariants.{Version1, Version2}
use Rattle.preferences.specs.Record.{within_values}
use Rattle.preferences_application.specs.Settings.{set_of, rate_of, resolution_of, lamps_of}
use Rattle.talks.specs.Talk.{Talk, tells, next}
use Rattle.talks.specs.Keyboard.{set_scancode_set, set_port_led, set_keyboard_repeat}
use Rattle.talks.specs.Mouse.{set_sampling_rate, set_resolution}

-- "application to the devices in field order, ending at the first refusal with its number"
unfoldable pub apply_four : Fields → Talk Success
apply_four four =
    next (set_scancode_set (set_of four.set))
    (λ _. next (set_sampling_rate (rate_of four.rate))
    (λ _. next (set_resolution (resolution_of four.resolution))
    (λ _. set_port_led Port1 (lamps_of four.lamps))))

-- "Version 2 adds a fifth, the repeat byte"
abbrev pub apply_within : Preferences → Talk Success
apply_within (Version1 four) = apply_four four
apply_within (Version2 four again) = next (apply_four four) (λ _. set_keyboard_repeat again)

-- "fields outside the values giving 28 before any read or write"
abbrev pub apply_if : Bool → Preferences → Talk Success
apply_if true p = apply_within p
apply_if false p = tells (Err FieldOutsideValues)

unfoldable pub apply_preferences : Preferences → Talk Success
apply_preferences p = apply_if (within_values p) p
