-- The application of a record to the devices, as a tree of its reads and writes.
use Rattle.std.specs.Prelude.{cond, List, [], ◌∷◌, ℕ}
use Rattle.exchange.specs.Exchange.{Exchange, done}
use Rattle.exchange.specs.Answer.{Answer, gives, refuses, and_then}
use Rattle.ps2_bytes.specs.declared.command.HostToKeyboardCommand.TheVariants.{SetRepeatRateAndDelay}
use Rattle.ps2_bytes.specs.declared.writable.HostToKeyboardCommandOrData.TheVariants as Byte
use Rattle.ps2_answers.specs.Refusals.{Success, success}
use Rattle.ps2_keyboard.specs.Keyboard.{command_to_keyboard, keyboard_command, set_scancode_set, set_keyboard_led}
use Rattle.ps2_mouse.specs.Mouse.{set_sampling_rate, set_resolution}
use Rattle.preferences.specs.declared.Preferences.{Preferences}
use Rattle.preferences.specs.Record.{within_values}
use Rattle.preferences_application.specs.declared.Setting.{Setting}
use Rattle.preferences_application.specs.Settings.{settings_of}

-- "the repeat byte is sent as F3 and the byte by the
-- keyboard command rule, and its failure gives 4 to 7"
unfoldable pub set_keyboard_repeat : ℕ → Exchange (Answer Success)
set_keyboard_repeat byte = and_then (keyboard_command SetRepeatRateAndDelay)
    (λ _. command_to_keyboard (Byte.RepeatRateAndDelay byte))

-- The operation that sets each.
unfoldable pub apply_setting : Setting → Exchange (Answer Success)
apply_setting (Setting.ScancodeSet set) = set_scancode_set set
apply_setting (Setting.SamplingRate rate) = set_sampling_rate rate
apply_setting (Setting.Resolution resolution) = set_resolution resolution
apply_setting (Setting.Lamps lamps) = set_keyboard_led lamps
apply_setting (Setting.RepeatRateAndDelay byte) = set_keyboard_repeat byte

-- "application to the devices in field order, ending at the first refusal with its number"
unfoldable pub apply_settings : List Setting → Exchange (Answer Success)
apply_settings [] = done (gives success)
apply_settings (setting ∷ settings) =
    and_then (apply_setting setting) (λ _. apply_settings settings)

-- "fields outside the values giving 28 before any read or write"
unfoldable pub apply_preferences : Preferences → Exchange (Answer Success)
apply_preferences p = cond (within_values p) (apply_settings (settings_of p)) (done (refuses 28))
