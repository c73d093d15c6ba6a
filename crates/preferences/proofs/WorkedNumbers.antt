-- Closed examples of numbers as bytes, by computation.
use mathlib.Core.Path.{◌≡◌, refl}
use mathlib.Core.List.{[], ◌∷◌}
use Rattle.exchange.specs.Answer.{gives, refuses}
use Rattle.preferences.specs.Coding.{coding_within, coding}
use Rattle.preferences.specs.NumberReading.{taking, groups_of, value_of, ends_in_zero, is_shortest, read_number}

-- The ends of the counts.
pub codings : (coding 0 ≡ 0x00 ∷ []) × (coding 127 ≡ 0x7F ∷ []) × (coding 128 ≡ 0x80 ∷ 0x01 ∷ []) × (coding 200 ≡ 0xC8 ∷ 0x01 ∷ []) × (coding 16384 ≡ 0x80 ∷ 0x80 ∷ 0x01 ∷ [])
    × (coding 4294967295 ≡ 0xFF ∷ 0xFF ∷ 0xFF ∷ 0xFF ∷ 0x0F ∷ [])
unfolding coding_within
codings = (refl, refl, refl, refl, refl, refl)

-- The largest number, with a byte behind it; one more is too large.
pub largest : (read_number (0xFF ∷ 0xFF ∷ 0xFF ∷ 0xFF ∷ 0x0F ∷ 0x07 ∷ []) ≡ gives (taking 4294967295 5)) × (read_number (0x80 ∷ 0x80 ∷ 0x80 ∷ 0x80 ∷ 0x10 ∷ []) ≡ refuses 27)
unfolding read_number groups_of value_of is_shortest ends_in_zero
largest = (refl, refl)

-- No byte, no last group, a last group of 0 that could be left out, a sixth group.
pub malformed : (read_number [] ≡ refuses 27) × (read_number (0x81 ∷ []) ≡ refuses 27) × (read_number (0x81 ∷ 0x00 ∷ []) ≡ refuses 27) × (read_number (0x80 ∷ 0x80 ∷ 0x80 ∷ 0x80 ∷ 0x80 ∷ 0x01 ∷ []) ≡ refuses 27)
unfolding read_number groups_of value_of is_shortest ends_in_zero
malformed = (refl, refl, refl, refl)
