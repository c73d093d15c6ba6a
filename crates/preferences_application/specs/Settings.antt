-- What the fields of a record ask of the devices, in their order.
use Rattle.std.specs.Prelude.{List, [], ◌∷◌, ◌++◌, ℕ}
use Rattle.std.specs.Result.{result_unwrap_or}
use Rattle.ps2_layouts.specs.declared.leds.LEDState.{LEDState}
use Rattle.ps2_bytes.specs.declared.data.ScancodeSet.{ScancodeSet}
use Rattle.ps2_bytes.specs.declared.data.ScancodeSet.TheVariants.{Get}
use Rattle.ps2_bytes.specs.declared.data.MouseSampleRate.{MouseSampleRate}
use Rattle.ps2_bytes.specs.declared.data.MouseSampleRate.TheVariants.{_100}
use Rattle.ps2_bytes.specs.declared.data.MouseResolution.{MouseResolution}
use Rattle.ps2_bytes.specs.declared.data.MouseResolution.TheVariants.{Count4PerMm}
use Rattle.ps2_bytes.specs.Data.{scancode_set_read, sample_rate_read, resolution_read}
use Rattle.preferences.specs.declared.Fields.{Fields}
use Rattle.preferences.specs.declared.Preferences.{Preferences}
use Rattle.preferences.specs.declared.Preferences.TheVariants.{Version1, Version2}
use Rattle.preferences_application.specs.declared.Setting.{Setting}

-- ---- a field's number as what the device's own table lists for it
-- Every number within the values is listed
-- (proofs/Bytes.antt); what stands for others is never sent.

abbrev pub set_of : ℕ → ScancodeSet
set_of n = result_unwrap_or (scancode_set_read n) Get

abbrev pub rate_of : ℕ → MouseSampleRate
rate_of n = result_unwrap_or (sample_rate_read n) _100

abbrev pub resolution_of : ℕ → MouseResolution
resolution_of n = result_unwrap_or (resolution_read n) Count4PerMm

-- The lamps' number is the byte after ED.
abbrev pub lamps_of : ℕ → LEDState
lamps_of n = record { bits = n }

-- ---- the settings of a record

-- "scancode set, sampling rate, resolution and lamps .. in that order"
abbrev pub four_settings : Fields → List Setting
four_settings four =
    Setting.ScancodeSet (set_of four.set) ∷ Setting.SamplingRate (rate_of four.rate)
    ∷ Setting.Resolution (resolution_of four.resolution) ∷ Setting.Lamps (lamps_of four.lamps) ∷ []

-- "Version 2 adds a fifth, the repeat byte"
abbrev pub settings_of : Preferences → List Setting
settings_of (Version1 four) = four_settings four
settings_of (Version2 four again) = four_settings four ++ Setting.RepeatRateAndDelay again ∷ []
