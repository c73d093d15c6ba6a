-- The keycode of a scancode's low part: there is one exactly where the low part is at most 5D.
use mathlib.Core.Path.{◌≡◌, sym, ap, ◌∙◌}
use mathlib.Core.Bool.{Bool, true, false}
use Prim.Native.Nat.{ℕ}
use native.Mathlib.Omega.{arith}
use lib.Bits.{bit_and, and_mask}
use lib.Dec.{leb}
use Rattle.bits.proofs.Every.{agree_bool}
use Rattle.std.specs.Prelude.{Option, Some, None, Result, Ok, Err}
use Rattle.std.specs.Result.{result_ok}
use Rattle.keycodes_ascii.specs.declared.Keycode.{Keycode}
use Rattle.keycodes_ascii.specs.declared.NoKeycode.{NoKeycode}
use Rattle.keycodes_ascii.specs.Keycode.{keycode_of, numbered, keycodes, keycode_read}
use Rattle.keycodes_ascii.proofs.Codes.{ok_read}
use Rattle.keyboard_scancodes.specs.Strokes.{low_part}
use Rattle.keyboard_scancodes.specs.Events.{the_keycode, keycode_at, last_keycode}

abbrev is_found : Option Keycode → Bool
is_found (Some k) = true
is_found None = false

low_found : (b : ℕ) → is_found (keycode_of (low_part b)) ≡ leb (low_part b) last_keycode
unfolding keycode_of numbered keycodes
low_found b = agree_bool (λ n. is_found (keycode_of n)) (λ n. leb n last_keycode) 128 tt (low_part b) (omega arith)

-- what the keycode of the masked byte tells
module _ (b : ℕ) {r : Result Keycode NoKeycode} (e : r ≡ keycode_read (bit_and b 0x7F)) where
  of_low : result_ok r ≡ keycode_of (low_part b)
  of_low = ap result_ok e ∙ ok_read (bit_and b 0x7F) ∙ ap keycode_of (and_mask b 7)

  pub known_low : {k : Keycode} → r ≡ Ok k → leb (low_part b) last_keycode ≡ true
  known_low q = sym (low_found b) ∙ ap is_found (sym of_low ∙ ap result_ok q)

  pub known_keycode : {k : Keycode} → r ≡ Ok k → keycode_at (low_part b) ≡ k
  unfolding keycode_at
  known_keycode q = ap the_keycode (sym of_low ∙ ap result_ok q)

  pub unknown_low : {x : NoKeycode} → r ≡ Err x → leb (low_part b) last_keycode ≡ false
  unknown_low q = sym (low_found b) ∙ ap is_found (sym of_low ∙ ap result_ok q)
