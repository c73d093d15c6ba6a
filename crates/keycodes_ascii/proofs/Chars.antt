-- Laws of the characters: what Caps Lock does, and which flags matter.
use mathlib.Core.Path.{◌≡◌, refl}
use mathlib.Core.Bool.{Bool, true, false, not, ◌||◌, xor, true≢false, false≢true}
use Rattle.bits.specs.Bits.{bit}
use Rattle.keyboard_modifiers.specs.declared.KeyboardModifiers.{KeyboardModifiers}
use Rattle.keyboard_modifiers.specs.Flags.{shift_left, shift_right, caps_lock}
use Rattle.keycodes_ascii.specs.declared.Keycode.{Keycode}
use Rattle.keycodes_ascii.specs.Characters.{Writes, letter, sign, same, control, nothing, writes, is_letter, character, character_of}

-- Caps Lock turns Shift round for a letter
pub caps_letter : (w : Writes) (shift : Bool) → is_letter w ≡ true → character w shift true ≡ character w (not shift) false
unfolding xor
caps_letter (letter a b) true e = refl
caps_letter (letter a b) false e = refl
caps_letter (sign a b) shift e = absurd (false≢true e)
caps_letter (same a) shift e = refl
caps_letter (control n) shift e = refl
caps_letter nothing shift e = refl

-- and does nothing to any other key
pub caps_other : (w : Writes) (shift : Bool) → is_letter w ≡ false → character w shift true ≡ character w shift false
unfolding xor
caps_other (letter a b) shift e = absurd (true≢false e)
caps_other (sign a b) shift e = refl
caps_other (same a) shift e = refl
caps_other (control n) shift e = refl
caps_other nothing shift e = refl

-- the character under flags that say these two things
pub character_flags : (k : Keycode) (m : KeyboardModifiers) {shift caps : Bool}
    → shift ≡ (bit shift_left m.bits || bit shift_right m.bits) → caps ≡ bit caps_lock m.bits
    → character (writes k) shift caps ≡ character_of k m
unfolding character_of
character_flags k m p q = rw (p, q)

-- only flags 0, 1 and 7 matter
pub character_other_flags : (k : Keycode) (m n : KeyboardModifiers)
    → bit shift_left m.bits ≡ bit shift_left n.bits → bit shift_right m.bits ≡ bit shift_right n.bits
    → bit caps_lock m.bits ≡ bit caps_lock n.bits → character_of k m ≡ character_of k n
unfolding character_of
character_other_flags k m n p q r = rw (p, q, r)
