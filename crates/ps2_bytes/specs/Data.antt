-- Data bytes that follow a command to a device: the byte of each value, and what a byte stands for;
-- one that stands for nothing is handed back.
use Rattle.std.specs.Prelude.{List, [], ◌∷◌, ℕ, Result, Ok, Err}
use Rattle.bits.specs.Table.{rows, decode}
use Rattle.ps2_bytes.specs.declared.Unlisted.{Unlisted}
use Rattle.ps2_bytes.specs.declared.data.ScancodeSet.{ScancodeSet}
use Rattle.ps2_bytes.specs.declared.data.ScancodeSet.TheVariants.{Get, Set1, Set2, Set3}
use Rattle.ps2_bytes.specs.declared.data.MouseSampleRate.{MouseSampleRate}
use Rattle.ps2_bytes.specs.declared.data.MouseSampleRate.TheVariants.{_10, _20, _40, _60, _80, _100, _200}
use Rattle.ps2_bytes.specs.declared.data.MouseResolution.{MouseResolution}
use Rattle.ps2_bytes.specs.declared.data.MouseResolution.TheVariants.{Count1PerMm, Count2PerMm, Count4PerMm, Count8PerMm}

-- ---- scancode sets, F0 of "PS/2 Keyboard"

-- 0 get; 1, 2, 3 set. The answer to a get has the same values, untranslated.
abbrev pub scancode_set_byte : ScancodeSet → ℕ
scancode_set_byte Get = 0
scancode_set_byte Set1 = 1
scancode_set_byte Set2 = 2
scancode_set_byte Set3 = 3

abbrev pub scancode_sets : List (ℕ × ScancodeSet)
scancode_sets = rows scancode_set_byte (Get ∷ Set1 ∷ Set2 ∷ Set3 ∷ [])

-- A byte as a scancode set.
abbrev pub scancode_set_read : ℕ → Result ScancodeSet Unlisted
scancode_set_read b = decode Ok (Err (record { 0 = b })) scancode_sets b

-- ---- sample rates, F3 of "PS/2 Mouse"

-- 10, 20, 40, 60, 80, 100 or 200 (decimal) packets a second.
abbrev pub sample_rate_byte : MouseSampleRate → ℕ
sample_rate_byte _10 = 10
sample_rate_byte _20 = 20
sample_rate_byte _40 = 40
sample_rate_byte _60 = 60
sample_rate_byte _80 = 80
sample_rate_byte _100 = 100
sample_rate_byte _200 = 200

abbrev pub sample_rates : List (ℕ × MouseSampleRate)
sample_rates = rows sample_rate_byte (_10 ∷ _20 ∷ _40 ∷ _60 ∷ _80 ∷ _100 ∷ _200 ∷ [])

-- A byte as a sample rate.
abbrev pub sample_rate_read : ℕ → Result MouseSampleRate Unlisted
sample_rate_read b = decode Ok (Err (record { 0 = b })) sample_rates b

-- ---- resolutions, E8 of "PS/2 Mouse"

-- 0 to 3: 1, 2, 4, 8 counts per mm.
abbrev pub resolution_byte : MouseResolution → ℕ
resolution_byte Count1PerMm = 0
resolution_byte Count2PerMm = 1
resolution_byte Count4PerMm = 2
resolution_byte Count8PerMm = 3

abbrev pub resolutions : List (ℕ × MouseResolution)
resolutions = rows resolution_byte (Count1PerMm ∷ Count2PerMm ∷ Count4PerMm ∷ Count8PerMm ∷ [])

-- A byte as a resolution.
abbrev pub resolution_read : ℕ → Result MouseResolution Unlisted
resolution_read b = decode Ok (Err (record { 0 = b })) resolutions b
