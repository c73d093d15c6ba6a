-- The values of the fields are the devices' own: each rate and resolution that the tables list, each scancode set but 0, which asks, and each state of the lamps.
use mathlib.Core.Bool.{Bool, true, false}
use mathlib.Core.Path.{◌≡◌, refl}
use Rattle.ps2_layouts.specs.Leds.{lamp_byte}
use Rattle.ps2_bytes.specs.declared.data.ScancodeSet.TheVariants.{Get, Set1, Set2, Set3}
use Rattle.ps2_bytes.specs.declared.data.MouseSampleRate.{MouseSampleRate}
use Rattle.ps2_bytes.specs.declared.data.MouseSampleRate.TheVariants.{_10, _20, _40, _60, _80, _100, _200}
use Rattle.ps2_bytes.specs.declared.data.MouseResolution.{MouseResolution}
use Rattle.ps2_bytes.specs.declared.data.MouseResolution.TheVariants.{Count1PerMm, Count2PerMm, Count4PerMm, Count8PerMm}
use Rattle.ps2_bytes.specs.Data.{scancode_set_byte, sample_rate_byte, resolution_byte}
use Rattle.preferences.specs.Values.{is_scancode_set, is_sampling_rate, is_resolution, is_lamps}

pub sets_within : (is_scancode_set (scancode_set_byte Get) ≡ false) × (is_scancode_set (scancode_set_byte Set1) ≡ true)
    × (is_scancode_set (scancode_set_byte Set2) ≡ true) × (is_scancode_set (scancode_set_byte Set3) ≡ true)
sets_within = (refl, refl, refl, refl)

pub rates_within : (rate : MouseSampleRate) → is_sampling_rate (sample_rate_byte rate) ≡ true
rates_within _10 = refl
rates_within _20 = refl
rates_within _40 = refl
rates_within _60 = refl
rates_within _80 = refl
rates_within _100 = refl
rates_within _200 = refl

pub resolutions_within : (resolution : MouseResolution) → is_resolution (resolution_byte resolution) ≡ true
resolutions_within Count1PerMm = refl
resolutions_within Count2PerMm = refl
resolutions_within Count4PerMm = refl
resolutions_within Count8PerMm = refl

pub lamps_within : (scroll number caps : Bool) → is_lamps (lamp_byte scroll number caps) ≡ true
lamps_within false false false = refl
lamps_within false false true = refl
lamps_within false true false = refl
lamps_within false true true = refl
lamps_within true false false = refl
lamps_within true false true = refl
lamps_within true true false = refl
lamps_within true true true = refl
