-- Which numbers have a keycode, and that a keycode that a number has is that number's.
use mathlib.Core.Bool.{true, false, cond, false≢true}
use mathlib.Core.List.{[], ◌∷◌, List}
use mathlib.Core.Path.{◌≡◌, refl, sym, ap, ◌∙◌}
use Prim.Native.Nat.{ℕ, ◌<◌, ◌≤◌}
use native.Mathlib.Omega.{arith}
use native.Mathlib.Decide.{dec_lt}
use borrow.Author.Tests.{lt-leb}
use lib.Dec.{leb}
use Rattle.bits.specs.Table.{rows, decode}
use Rattle.bits.proofs.Every.{agree_bool}
use Rattle.bits.proofs.Table.{NoRow, decode_missing}
use Rattle.std.specs.Prelude.{Some}
use Rattle.std.specs.Prelude.{Option, None}
use Rattle.keycodes_ascii.specs.declared.Keycode.{Keycode}
use Rattle.keycodes_ascii.specs.declared.KeyAction.{KeyAction}
use Rattle.keycodes_ascii.specs.Keycode.{keycodes, numbered, keycode_of}
use Rattle.keycodes_ascii.proofs.Codes.{Has, keycode_has}
use Rattle.argument_words.specs.Arguments.{invalid_argument}
use Rattle.report.specs.Events.{code_of}
use Rattle.bytes_words.specs.Keys.{event_code_at}
use Rattle.bytes_words.specs.Parts.{is_found}
use Rattle.bytes_words.proofs.Keys.{keycode_above}

-- each number up to 5D has one
pub known_low : (n : ℕ) → n ≤ 0x5D → true ≡ is_found (keycode_of n)
unfolding keycode_of numbered keycodes
known_low n h = agree_bool (λ m. true) (λ m. is_found (keycode_of m)) 94 tt n (omega arith)

-- above that the release codes of the modifier keys have
abbrev pub releases : List (ℕ × ℕ)
releases = rows (λ m. m) (0x9D ∷ 0xAA ∷ 0xB6 ∷ 0xB8 ∷ 0xDB ∷ 0xDC ∷ [])

unknown_byte : (n : ℕ) → Dec (n < 256) → 0x5D < n → NoRow (Unit {0}) releases n → false ≡ is_found (keycode_of n)
unfolding keycode_of numbered keycodes decode
unknown_byte n (yes h) l o =
    sym (rw (lt-leb n 0x5D l) (decode_missing (λ m. true) false (Unit {0}) releases n o))
    ∙ agree_bool (λ m. cond (leb m 0x5D) true (decode (λ m. true) false releases m)) (λ m. is_found (keycode_of m)) 256 tt n h
unknown_byte n (no h) l o = ap is_found (keycode_above n (omega arith))

pub unknown_other : (n : ℕ) → 0x5D < n → NoRow (Unit {0}) releases n → false ≡ is_found (keycode_of n)
unknown_other n l o = unknown_byte n (dec_lt n 256) l o

-- the byte of an event, by the keycode's number
has_event : (n : ℕ) (f : Option Keycode) (a : KeyAction) → Has n f → is_found f ≡ true → code_of a n ≡ event_code_at f (Some a)
has_event n (Some k) a h e = ap (code_of a) h
has_event n None a h e = absurd (false≢true e)

pub number_event : (n : ℕ) (a : KeyAction) → is_found (keycode_of n) ≡ true → code_of a n ≡ event_code_at (keycode_of n) (Some a)
number_event n a e = has_event n (keycode_of n) a (keycode_has n) e

-- what is answered where an action stands for nothing
pub no_action_event : (f : Option Keycode) → invalid_argument ≡ event_code_at f None
no_action_event (Some k) = refl
no_action_event None = refl
