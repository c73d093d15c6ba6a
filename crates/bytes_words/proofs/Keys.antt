-- A number above a byte has no keycode. What is answered besides characters and events is no number of theirs: 0 and 255.
use mathlib.Core.Bool.{Bool, true, false, ◌||◌, xor}
use mathlib.Core.Path.{◌≡◌, refl, ap}
use Prim.Native.Nat.{ℕ, ◌≤◌, ◌<◌}
use native.Mathlib.Omega.{arith}
use lib.Dec.{T, ltb, ltb→lt}
use Rattle.bits.specs.Bits.{bit}
use Rattle.keyboard_modifiers.specs.declared.KeyboardModifiers.{KeyboardModifiers}
use Rattle.keyboard_modifiers.specs.Flags.{shift_left, shift_right, caps_lock}
use Rattle.std.specs.Prelude.{Option, Some, None}
use Rattle.keycodes_ascii.specs.declared.KeyAction.{KeyAction}
use Rattle.keycodes_ascii.specs.declared.Keycode.{Keycode}
use Rattle.keycodes_ascii.specs.Characters.{writes, character, character_of}
use Rattle.keycodes_ascii.specs.Keycode.{number_of, keycodes, keycode_of}
use Rattle.keycodes_ascii.proofs.CharacterTable.{nul_free}
use Rattle.keycodes_ascii.proofs.Codes.{every_keycode, Has, keycode_has}
use Rattle.report.specs.Events.{code_of}
use Rattle.bytes_words.specs.Keys.{character_number}

number_in : (k : Keycode) → number_of k < 256
unfolding keycodes
number_in k = ltb→lt (number_of k) 256 (every_keycode (λ j. ltb (number_of j) 256) tt tt k)

above : (n : ℕ) (f : Option Keycode) → 256 ≤ n → Has n f → None ≡ f
above n (Some k) h e = absurd (omega (arith, number_in k, e))
above n None h e = refl

pub keycode_above : (n : ℕ) → 256 ≤ n → None ≡ keycode_of n
keycode_above n h = above n (keycode_of n) h (keycode_has n)

-- ---- characters are ASCII, so that 255 is none of them

abbrev ascii : Bool → Bool → Keycode → Bool
ascii shift caps k = ltb (character_number (character (writes k) shift caps)) 128

is_ascii : (k : Keycode) (shift caps : Bool) → T (ascii shift caps k)
unfolding keycodes xor
is_ascii k true true = every_keycode (ascii true true) tt tt k
is_ascii k true false = every_keycode (ascii true false) tt tt k
is_ascii k false true = every_keycode (ascii false true) tt tt k
is_ascii k false false = every_keycode (ascii false false) tt tt k

pub character_ascii : (k : Keycode) (m : KeyboardModifiers) → character_number (character_of k m) < 128
unfolding character_of
character_ascii k m = ltb→lt _ 128 (is_ascii k (bit shift_left m.bits || bit shift_right m.bits) (bit caps_lock m.bits))

-- ---- and no key writes the character 0, so that it says that there is none

absent : (x : Option ℕ) → (x ≡ Some 0 → ⊥) → character_number x ≡ 0 → x ≡ None
absent (Some n) h e = absurd (h (ap Some e))
absent None h e = refl

pub character_absent : (k : Keycode) (m : KeyboardModifiers) → character_number (character_of k m) ≡ 0 → character_of k m ≡ None
unfolding character_of
character_absent k m =
    absent (character_of k m) (nul_free k (bit shift_left m.bits || bit shift_right m.bits) (bit caps_lock m.bits))

-- ---- no event has the byte 255

abbrev below : KeyAction → Keycode → Bool
below a k = ltb (code_of a (number_of k)) 255

pub event_below : (a : KeyAction) (k : Keycode) → code_of a (number_of k) < 255
unfolding keycodes
event_below KeyAction.Pressed k = ltb→lt _ 255 (every_keycode (below KeyAction.Pressed) tt tt k)
event_below KeyAction.Released k = ltb→lt _ 255 (every_keycode (below KeyAction.Released) tt tt k)
