-- The flags as the Rust numbers them, and as ours are numbered.
use Rattle.std.specs.Prelude.{cond, List, [], ◌∷◌, ℕ, ◌^◌, ltb, Option, Some, None}
use Rattle.bits.specs.Bits.{bit, put_bit}
use Rattle.keyboard_modifiers.specs.Flags as Ours
use Rattle.keyboard_modifiers.specs.declared.KeyboardModifiers.{KeyboardModifiers as OurModifiers}
use Rattle.theseus_keycodes.specs.declared.KeyboardModifiers.{KeyboardModifiers}

abbrev pub control_left : ℕ
control_left = 0

abbrev pub control_right : ℕ
control_right = 1

abbrev pub shift_left : ℕ
shift_left = 2

abbrev pub shift_right : ℕ
shift_right = 3

abbrev pub alt : ℕ
alt = 4

abbrev pub alt_gr : ℕ
alt_gr = 5

abbrev pub super_key_left : ℕ
super_key_left = 6

abbrev pub super_key_right : ℕ
super_key_right = 7

abbrev pub caps_lock : ℕ
caps_lock = 8

abbrev pub num_lock : ℕ
num_lock = 9

abbrev pub scroll_lock : ℕ
scroll_lock = 10

-- Each of the eleven flags: the Rust's number, and ours.
abbrev pub flag_numbers : List (ℕ × ℕ)
flag_numbers =
    (control_left, Ours.control_left) ∷
    (control_right, Ours.control_right) ∷
    (shift_left, Ours.shift_left) ∷
    (shift_right, Ours.shift_right) ∷
    (alt, Ours.alt) ∷
    (alt_gr, Ours.alt_right) ∷
    (super_key_left, Ours.super_key_left) ∷
    (super_key_right, Ours.super_key_right) ∷
    (caps_lock, Ours.caps_lock) ∷
    (num_lock, Ours.num_lock) ∷
    (scroll_lock, Ours.scroll_lock) ∷ []

-- The word of flags in which each flag has our number: a
-- flag is set in it if the Rust's word has it.
unfoldable pub renumbered_by : List (ℕ × ℕ) → ℕ → ℕ
renumbered_by [] flags = 0
renumbered_by (row ∷ rows) flags = put_bit row.1 (bit row.0 flags) (renumbered_by rows flags)

abbrev pub renumbered : ℕ → ℕ
renumbered flags = renumbered_by flag_numbers flags

abbrev pub ours_modifiers : KeyboardModifiers → OurModifiers
ours_modifiers m = record { bits = renumbered m.bits }

-- The flags of a word: the eleven are its bits below 11.
abbrev pub checked : ℕ → Option KeyboardModifiers
checked bits = cond (ltb bits (2 ^ 11)) (Some (record { bits = bits })) None
