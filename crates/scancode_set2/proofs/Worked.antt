-- Closed examples of the conversion, by computation.
use mathlib.Core.Path.{◌≡◌, refl}
use mathlib.Core.List.{List, [], ◌∷◌}
use Prim.Native.Nat.{ℕ}
use Rattle.bits.specs.Bits.{put_bit}
use Rattle.exchange.specs.Answer.{Answer, gives, refuses}
use Rattle.ps2_answers.specs.Refusals.{Success, success}
use Rattle.scancode_set2.specs.Table.{printed, entry_of}
use Rattle.scancode_set2.specs.Codes.{codes}
use Rattle.scancode_set2.specs.Convert.{becomes, Converted, convert_codes, convert_stream}

-- what a conversion comes to, by its parts
abbrev comes : Answer Success → ℕ → List ℕ → Converted
comes a used bytes = record { end = a; used = used; bytes = bytes }

-- Shift, A, and both released.
pub shift_a : convert_stream (0x12 ∷ 0x1C ∷ 0xF0 ∷ 0x1C ∷ 0xF0 ∷ 0x12 ∷ []) 4 ≡ comes (gives success) 6 (0x2A ∷ 0x1E ∷ 0x9E ∷ 0xAA ∷ [])
unfolding convert_codes codes becomes entry_of printed put_bit
shift_a = refl

-- Print Screen pressed and released, and Pause: the wiki's bytes of set 1.
pub print_screen :
    convert_stream (0xE0 ∷ 0x12 ∷ 0xE0 ∷ 0x7C ∷ 0xE0 ∷ 0xF0 ∷ 0x7C ∷ 0xE0 ∷ 0xF0 ∷ 0x12 ∷ []) 8
    ≡ comes (gives success) 10 (0xE0 ∷ 0x2A ∷ 0xE0 ∷ 0x37 ∷ 0xE0 ∷ 0xB7 ∷ 0xE0 ∷ 0xAA ∷ [])
unfolding convert_codes codes becomes entry_of printed put_bit
print_screen = refl

pub pause :
    convert_stream (0xE1 ∷ 0x14 ∷ 0x77 ∷ 0xE1 ∷ 0xF0 ∷ 0x14 ∷ 0xF0 ∷ 0x77 ∷ []) 6
    ≡ comes (gives success) 8 (0xE1 ∷ 0x1D ∷ 0x45 ∷ 0xE1 ∷ 0x9D ∷ 0xC5 ∷ [])
unfolding convert_codes codes becomes entry_of printed put_bit
pause = refl

-- F0 47 and F0 4F become E0 and E1, F0 13 becomes F0 and F0 65 becomes FA: these are bytes of set 1.
pub released_prefixes :
    convert_stream (0xF0 ∷ 0x47 ∷ 0xF0 ∷ 0x4F ∷ 0xF0 ∷ 0x13 ∷ 0xF0 ∷ 0x65 ∷ []) 4
    ≡ comes (gives success) 8 (0xE0 ∷ 0xE1 ∷ 0xF0 ∷ 0xFA ∷ [])
unfolding convert_codes codes becomes entry_of printed put_bit
released_prefixes = refl

-- F0 F0 is refused with neither used, and the E0 before it stays written and used.
pub twice_f0 : convert_stream (0xE0 ∷ 0xF0 ∷ 0xF0 ∷ 0x1C ∷ []) 4 ≡ comes (refuses 22) 1 (0xE0 ∷ [])
unfolding convert_codes codes becomes entry_of printed put_bit
twice_f0 = refl

-- Replies of the keyboard have no entry.
pub reply : convert_stream (0x1C ∷ 0xFA ∷ []) 4 ≡ comes (refuses 22) 1 (0x1E ∷ [])
unfolding convert_codes codes becomes entry_of printed put_bit
reply = refl

-- A full output: 23 of a code that becomes a byte, of E0 too; 22 of one that doesn't; 24 of F0 at the end, which asks for no room.
pub when_full :
    (convert_stream (0x1C ∷ 0x1C ∷ []) 1 ≡ comes (refuses 23) 1 (0x1E ∷ []))
    × (convert_stream (0xE0 ∷ []) 0 ≡ comes (refuses 23) 0 [])
    × (convert_stream (0x00 ∷ []) 0 ≡ comes (refuses 22) 0 [])
    × (convert_stream (0xF0 ∷ 0xE1 ∷ []) 0 ≡ comes (refuses 22) 0 [])
    × (convert_stream (0xF0 ∷ []) 0 ≡ comes (refuses 24) 0 [])
    × (convert_stream [] 0 ≡ comes (gives success) 0 [])
unfolding convert_codes codes becomes entry_of printed put_bit
when_full = (refl, refl, refl, refl, refl, refl)
