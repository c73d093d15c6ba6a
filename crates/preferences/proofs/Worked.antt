-- Closed examples of records as bytes, by computation.
use mathlib.Core.Path.{◌≡◌, refl}
use mathlib.Core.List.{[], ◌∷◌}
use Rattle.exchange.specs.Answer.{gives, refuses}
use Rattle.preferences.specs.Coding.{coding_within}
use Rattle.preferences.specs.NumberReading.{groups_of, value_of, ends_in_zero, is_shortest, read_number}
use Rattle.preferences.specs.declared.Fields.{Fields}
use Rattle.preferences.specs.declared.Preferences.TheVariants.{Version1, Version2}
use Rattle.preferences.specs.Format.{codings}
use Rattle.preferences.specs.Reading.{numbers_read, record_read, read1, read2}
use Rattle.preferences.specs.Writing.{written}

-- set 2, rate 200, resolution 3, lamps 7
abbrev four : Fields
four = record { set = 2; rate = 200; resolution = 3; lamps = 7 }

-- 200 takes two bytes; the room is asked for behind the values.
pub written_1 : (written 7 (Version1 four) ≡ gives (0x01 ∷ 0x04 ∷ 0x02 ∷ 0xC8 ∷ 0x01 ∷ 0x03 ∷ 0x07 ∷ [])) × (written 6 (Version1 four) ≡ refuses 23) × (written 6 (Version2 four 128) ≡ refuses 28)
unfolding written codings coding_within
written_1 = (refl, refl, refl)

-- A repeat byte of 128 is shown over by the version 1 reader, and refused by the version 2 reader.
pub fifth_128 : (read1 (0x02 ∷ 0x05 ∷ 0x02 ∷ 0xC8 ∷ 0x01 ∷ 0x03 ∷ 0x07 ∷ 0x80 ∷ 0x01 ∷ []) ≡ gives (2 ∷ 200 ∷ 3 ∷ 7 ∷ []))
    × (read2 (0x02 ∷ 0x05 ∷ 0x02 ∷ 0xC8 ∷ 0x01 ∷ 0x03 ∷ 0x07 ∷ 0x80 ∷ 0x01 ∷ []) ≡ refuses 28)
unfolding record_read numbers_read read_number groups_of value_of is_shortest ends_in_zero
fifth_128 = (refl, refl)

-- No byte; 81 00, which is no version 129; version 3; a count of the other version, whatever follows; a fifth number in a version 1 record.
pub refusals : (read2 [] ≡ refuses 27) × (read2 (0x81 ∷ 0x00 ∷ []) ≡ refuses 27) × (read2 (0x03 ∷ []) ≡ refuses 28) × (read2 (0x01 ∷ 0x05 ∷ 0x80 ∷ []) ≡ refuses 28)
    × (read1 (0x01 ∷ 0x04 ∷ 0x01 ∷ 0x0A ∷ 0x00 ∷ 0x00 ∷ 0x05 ∷ []) ≡ refuses 29)
unfolding record_read numbers_read read_number groups_of value_of is_shortest ends_in_zero
refusals = (refl, refl, refl, refl, refl)
