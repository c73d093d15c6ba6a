-- What an application is refused with: each step with its own numbers, and with 28 nothing but a record that has a field outside its values.
use mathlib.Core.Bool.{Bool, true, false}
use mathlib.Core.List.{List, [], ◌∷◌}
use mathlib.Core.Path.{◌≡◌, refl}
use Prim.Native.Nat.{ℕ}
use Rattle.exchange.specs.Exchange.{yields, play}
use Rattle.exchange.specs.Answer.{refuses}
use Rattle.exchange.specs.Only.{only_done}
use Rattle.exchange.specs.Refuses.{Refuses}
use Rattle.exchange.proofs.Only.{only_play}
use Rattle.exchange.proofs.Then.{refuses_then, refuses_more}
use Rattle.ps2_bytes.specs.declared.command.HostToKeyboardCommand.TheVariants.{SetRepeatRateAndDelay}
use Rattle.ps2_bytes.specs.declared.writable.HostToKeyboardCommandOrData.TheVariants as Byte
use Rattle.ps2_command.proofs.Refuses.{command_refusals, command_and}
use Rattle.ps2_keyboard.proofs.Refuses.{refuses_command_to_keyboard, refuses_set_keyboard_led, refuses_set_scancode_set}
use Rattle.ps2_mouse.proofs.Refuses.{refuses_set_sampling_rate, refuses_set_resolution}
use Rattle.preferences.specs.declared.Preferences.{Preferences}
use Rattle.preferences.specs.Record.{within_values}
use Rattle.preferences_application.specs.declared.Setting.{Setting}
use Rattle.preferences_application.specs.Settings.{settings_of}
use Rattle.preferences_application.specs.Application.{set_keyboard_repeat, apply_setting, apply_settings, apply_preferences}
use Rattle.preferences_application.proofs.Outside.{within_applied}

-- "its failure gives 4 to 7"
pub refuses_set_keyboard_repeat : (byte : ℕ) → Refuses command_refusals (set_keyboard_repeat byte)
unfolding set_keyboard_repeat
refuses_set_keyboard_repeat byte =
    refuses_then command_refusals (refuses_command_to_keyboard (Byte.KeyboardCommand SetRepeatRateAndDelay)) (λ _. refuses_command_to_keyboard (Byte.RepeatRateAndDelay byte))

-- 4 to 7 and 11 of the scancode set, 15 of rate and resolution, 14 of the lamps, 4 to 7 of the repeat byte
abbrev pub numbers_of : Setting → List ℕ
numbers_of (Setting.ScancodeSet set) = command_and 11
numbers_of (Setting.SamplingRate rate) = 15 ∷ []
numbers_of (Setting.Resolution resolution) = 15 ∷ []
numbers_of (Setting.Lamps lamps) = 14 ∷ []
numbers_of (Setting.RepeatRateAndDelay byte) = command_refusals

pub refuses_apply_setting : (setting : Setting) → Refuses (numbers_of setting) (apply_setting setting)
unfolding apply_setting
refuses_apply_setting (Setting.ScancodeSet set) = refuses_set_scancode_set set
refuses_apply_setting (Setting.SamplingRate rate) = refuses_set_sampling_rate rate
refuses_apply_setting (Setting.Resolution resolution) = refuses_set_resolution resolution
refuses_apply_setting (Setting.Lamps lamps) = refuses_set_keyboard_led lamps
refuses_apply_setting (Setting.RepeatRateAndDelay byte) = refuses_set_keyboard_repeat byte

-- ---- all of them

abbrev pub apply_refusals : List ℕ
apply_refusals = 4 ∷ 5 ∷ 6 ∷ 7 ∷ 11 ∷ 14 ∷ 15 ∷ []

one_of_all : (setting : Setting) → Refuses apply_refusals (apply_setting setting)
one_of_all (Setting.ScancodeSet set) = refuses_more (command_and 11) apply_refusals tt (refuses_apply_setting (Setting.ScancodeSet set))
one_of_all (Setting.SamplingRate rate) = refuses_more (15 ∷ []) apply_refusals tt (refuses_apply_setting (Setting.SamplingRate rate))
one_of_all (Setting.Resolution resolution) = refuses_more (15 ∷ []) apply_refusals tt (refuses_apply_setting (Setting.Resolution resolution))
one_of_all (Setting.Lamps lamps) = refuses_more (14 ∷ []) apply_refusals tt (refuses_apply_setting (Setting.Lamps lamps))
one_of_all (Setting.RepeatRateAndDelay byte) = refuses_more command_refusals apply_refusals tt (refuses_apply_setting (Setting.RepeatRateAndDelay byte))

pub refuses_apply_settings : (settings : List Setting) → Refuses apply_refusals (apply_settings settings)
unfolding apply_settings
refuses_apply_settings [] = only_done tt
refuses_apply_settings (setting ∷ settings) = refuses_then apply_refusals (one_of_all setting) (λ _. refuses_apply_settings settings)

-- ---- 28 for nothing else

module _ (p : Preferences) where
  pub refuses_within : within_values p ≡ true → Refuses apply_refusals (apply_preferences p)
  refuses_within q = rw (within_applied p q) (refuses_apply_settings (settings_of p))

  outside_asked : (b : Bool) → within_values p ≡ b → (s l : List ℕ) → (play (apply_preferences p) s l).end ≡ yields (refuses 28) → within_values p ≡ false
  outside_asked true q s l e = absurd (only_play (refuses_within q) s l (refuses 28) e)
  outside_asked false q s l e = q

  -- the other way round it is `plays_outside`
  pub outside_alone : (s l : List ℕ) → (play (apply_preferences p) s l).end ≡ yields (refuses 28) → within_values p ≡ false
  outside_alone s l e = outside_asked (within_values p) refl s l e
