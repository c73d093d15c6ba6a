-- The most reads and writes of an application, and scripts that take them.
use mathlib.Core.Bool.{Bool, true, false}
use mathlib.Core.Path.{◌≡◌, refl}
use Prim.Native.Nat.{ℕ}
use native.Mathlib.Omega.{arith}
use Rattle.exchange.specs.Answer.{gives}
use Rattle.exchange.specs.Attains.{Attains, Most}
use Rattle.exchange.specs.Bounds.{Within, within_done}
use Rattle.exchange.proofs.Bounds.{within_more}
use Rattle.exchange.proofs.Then.{within_then, attains_then, attains_as}
use Rattle.ps2_layouts.specs.declared.leds.LEDState.{LEDState}
use Rattle.ps2_bytes.specs.declared.command.HostToKeyboardCommand.TheVariants as Command
use Rattle.ps2_bytes.specs.declared.command.HostToMouseCommand.TheVariants as MouseCommand
use Rattle.ps2_bytes.specs.declared.data.MouseResolution.{MouseResolution}
use Rattle.ps2_bytes.specs.declared.writable.HostToKeyboardCommandOrData.TheVariants as Byte
use Rattle.ps2_bytes.specs.declared.writable.HostToMouseCommandOrData.TheVariants as MouseByte
use Rattle.ps2_answers.specs.Refusals.{success}
use Rattle.ps2_keyboard.specs.Keyboard.{command_to_keyboard, set_led_by, set_keyboard_led}
use Rattle.ps2_keyboard.proofs.Bounds.{within_keyboard, attains_keyboard, most_set_keyboard_led, attains_set_scancode_set, most_set_scancode_set}
use Rattle.ps2_mouse.specs.Mouse.{set_resolution}
use Rattle.ps2_mouse.proofs.Bounds.{most_data_as, most_set_sampling_rate, most_set_resolution}
use Rattle.preferences.specs.declared.Fields.{Fields}
use Rattle.preferences.specs.declared.Preferences.{Preferences}
use Rattle.preferences.specs.declared.Preferences.TheVariants.{Version1, Version2}
use Rattle.preferences.specs.Record.{within_values}
use Rattle.preferences_application.specs.Settings.{set_of, rate_of, resolution_of, lamps_of, settings_of}
use Rattle.preferences_application.specs.Application.{set_keyboard_repeat, apply_settings, apply_preferences}
use Rattle.preferences_application.proofs.Outside.{within_applied, outside_refused}
use Rattle.preferences_application.proofs.Steps.{field_order, version_two_steps}

-- ---- the steps

attains_resolution : (resolution : MouseResolution) → Attains (gives success) 1050600 10 (set_resolution resolution)
unfolding set_resolution
attains_resolution resolution = (most_data_as 15 MouseCommand.SetResolution (MouseByte.MouseResolution resolution)).attains

attains_lamps : (lamps : LEDState) → Attains (gives success) 1050600 8 (set_keyboard_led lamps)
unfolding set_keyboard_led set_led_by
attains_lamps lamps =
    attains_as 14 (attains_then (λ _. command_to_keyboard (Byte.LEDState lamps)) (attains_keyboard (Byte.KeyboardCommand Command.SetLEDStatus)) (attains_keyboard (Byte.LEDState lamps)))

unfoldable pub most_set_keyboard_repeat : (byte : ℕ) → Most 1050600 8 (set_keyboard_repeat byte)
unfolding set_keyboard_repeat
most_set_keyboard_repeat byte =
    record {
      within = within_then (within_keyboard (Byte.KeyboardCommand Command.SetRepeatRateAndDelay)) (λ _. within_keyboard (Byte.RepeatRateAndDelay byte));
      yielded = gives success;
      attains =
          attains_then (λ _. command_to_keyboard (Byte.RepeatRateAndDelay byte)) (attains_keyboard (Byte.KeyboardCommand Command.SetRepeatRateAndDelay)) (attains_keyboard (Byte.RepeatRateAndDelay byte));
    }

module _ (four : Fields) where
  within_four_settings : Within 5384070 44 (apply_settings (settings_of (Version1 four)))
  within_four_settings =
      rw (field_order four)
      (within_then (most_set_scancode_set (set_of four.set)).within
      (λ _. within_then (most_set_sampling_rate (rate_of four.rate)).within
      (λ _. within_then (most_set_resolution (resolution_of four.resolution)).within (λ _. (most_set_keyboard_led (lamps_of four.lamps)).within))))

  attains_four_settings : Attains (gives success) 5384070 44 (apply_settings (settings_of (Version1 four)))
  unfolding most_set_sampling_rate
  attains_four_settings =
      rw (field_order four)
      (attains_then _ (attains_set_scancode_set (set_of four.set))
      (attains_then _ (most_set_sampling_rate (rate_of four.rate)).attains
      (attains_then _ (attains_resolution (resolution_of four.resolution)) (attains_lamps (lamps_of four.lamps)))))

  within_five_settings : (again : ℕ) → Within 6434670 52 (apply_settings (settings_of (Version2 four again)))
  within_five_settings again = rw (version_two_steps four again) (within_then within_four_settings (λ _. (most_set_keyboard_repeat again).within))

  attains_five_settings : (again : ℕ) → Attains (gives success) 6434670 52 (apply_settings (settings_of (Version2 four again)))
  unfolding most_set_keyboard_repeat
  attains_five_settings again = rw (version_two_steps four again) (attains_then _ attains_four_settings (most_set_keyboard_repeat again).attains)

-- ---- a record within its values

pub most_version1 : (four : Fields) → within_values (Version1 four) ≡ true → Most 5384070 44 (apply_preferences (Version1 four))
most_version1 four q =
    rw (within_applied (Version1 four) q)
    (record { within = within_four_settings four; yielded = gives success; attains = attains_four_settings four })

pub most_version2 : (four : Fields) (again : ℕ) → within_values (Version2 four again) ≡ true → Most 6434670 52 (apply_preferences (Version2 four again))
most_version2 four again q =
    rw (within_applied (Version2 four again) q)
    (record { within = within_five_settings four again; yielded = gives success; attains = attains_five_settings four again })

-- ---- any record

within_settings : (p : Preferences) → Within 6434670 52 (apply_settings (settings_of p))
within_settings (Version1 four) = within_more (within_four_settings four) 6434670 52 (omega arith) (omega arith)
within_settings (Version2 four again) = within_five_settings four again

within_asked : (p : Preferences) (b : Bool) → within_values p ≡ b → Within 6434670 52 (apply_preferences p)
within_asked p true q = rw (within_applied p q) (within_settings p)
within_asked p false q = rw (outside_refused p q) within_done

pub within_apply_preferences : (p : Preferences) → Within 6434670 52 (apply_preferences p)
within_apply_preferences p = within_asked p (within_values p) refl
