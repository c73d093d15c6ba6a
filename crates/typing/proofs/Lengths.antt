-- How many bytes a text takes: two for each character, and two more for each that needs Shift.
use mathlib.Core.Path.{◌≡◌, refl, subst⁻¹, ◌∙◌}
use mathlib.Core.Bool.{Bool, true, false, false≢true, true≢false}
use mathlib.Core.List.{List, [], ◌∷◌}
use mathlib.Core.Option.{Option, none, some}
use Prim.Native.Nat.{ℕ, suc, ◌+◌, ◌*◌, ◌/◌, ◌-◌, ◌<◌, ◌≤◌}
use native.Mathlib.Omega.{arith}
use lib.ListN.{length, drop, length-append}
use borrow.Author.Tests.{le-leb, lt-leb}
use Rattle.std.specs.Prelude.{None, Some, Ok, Err}
use Rattle.std.specs.Option.{is_some}
use Rattle.exchange.specs.Answer.{Answer, gives, refuses}
use Rattle.keycodes_ascii.specs.declared.Keycode.{Keycode}
use Rattle.typing.specs.declared.TypingRefusal.{TypingRefusal}
use Rattle.typing.specs.Keys.{Key, keys_of}
use Rattle.typing.specs.Typing.{strokes_of, scancodes, typed, Accepted, Outcome, leaves, refusal_number, told}
use Rattle.typing.specs.Lengths.{width, widths, one_more, with_shift, count_of}
use Rattle.typing.proofs.Texts.{keyed, keyed_length}

-- ---- keys

pub strokes_width : (k : Key) → length (strokes_of k) ≡ width k.shift
unfolding strokes_of
strokes_width k = by k.shift k.keycode
  where
    by : (shift : Bool) (j : Keycode) → length (strokes_of (record { keycode = j; shift = shift })) ≡ width shift
    by true j = refl
    by false j = refl

pub scancodes_widths : (ks : List Key) → length (scancodes ks) ≡ widths ks
unfolding scancodes widths
scancodes_widths [] = refl
scancodes_widths (k ∷ ks) = length-append (strokes_of k) (scancodes ks) ∙ rw (strokes_width k, scancodes_widths ks)

pub widths_shift : (ks : List Key) → widths ks ≡ 2 * (length ks + with_shift ks)
unfolding widths with_shift
widths_shift [] = refl
widths_shift (k ∷ ks) = by k.shift (widths_shift ks)
  where
    by : (shift : Bool) → widths ks ≡ 2 * (length ks + with_shift ks) → width shift + widths ks ≡ 2 * (suc (length ks) + one_more shift (with_shift ks))
    by true e = omega (arith, e)
    by false e = omega (arith, e)

pub widths_le : (ks : List Key) → widths ks ≤ 4 * length ks
unfolding widths
widths_le [] = omega arith
widths_le (k ∷ ks) = by k.shift (widths_le ks)
  where
    by : (shift : Bool) → widths ks ≤ 4 * length ks → width shift + widths ks ≤ 4 * suc (length ks)
    by true l = omega (arith, l)
    by false l = omega (arith, l)

-- ---- texts

module _ (text : List ℕ) where
  pub typed_no_key : (room : ℕ) → keys_of text ≡ none → typed room text ≡ refuses 25
  unfolding typed
  typed_no_key room e = rw e

  module _ {ks : List Key} (e : keys_of text ≡ some ks) where
    pub typed_length : length (scancodes ks) ≡ 2 * (length text + with_shift ks)
    typed_length = scancodes_widths ks ∙ widths_shift ks ∙ rw (keyed_length (keyed text e))

    pub typed_le : length (scancodes ks) ≤ 4 * length text
    typed_le = omega (arith, scancodes_widths ks, widths_le ks, keyed_length (keyed text e))

    pub typed_fits : (room : ℕ) → length (scancodes ks) ≤ room → typed room text ≡ gives (scancodes ks)
    unfolding typed
    typed_fits room h = rw (e, le-leb (length (scancodes ks)) room h)

    pub typed_short : (room : ℕ) → room < length (scancodes ks) → typed room text ≡ refuses 26
    unfolding typed
    typed_short room h = rw (e, lt-leb (length (scancodes ks)) room h)

-- ---- what the code counts

pub count_none : (text : List ℕ) → count_of (keys_of text) ≡ None → keys_of text ≡ none
count_none text e = by (keys_of text) e
  where
    by : (o : Option (List Key)) → count_of o ≡ None → o ≡ none
    by none e = refl
    by (some ks) e = cc

pub record Keys (text : List ℕ) (shifted : ℕ) : Type 0 where
  pub keys : List Key
  pub are : keys_of text ≡ some keys
  pub count : with_shift keys ≡ shifted

pub count_some : (text : List ℕ) (n : ℕ) → count_of (keys_of text) ≡ Some n → Keys text n
count_some text n e = by (keys_of text) refl e
  where
    by : (o : Option (List Key)) → keys_of text ≡ o → count_of o ≡ Some n → Keys text n
    by none q e = cc
    by (some ks) q e = record { keys = ks; are = q; count = cc }

pub count_is_some : (text : List ℕ) → is_some (count_of (keys_of text)) ≡ true → (ks : List Key) × (keys_of text ≡ some ks)
count_is_some text e = by (keys_of text) refl e
  where
    by : (o : Option (List Key)) → keys_of text ≡ o → is_some (count_of o) ≡ true → (ks : List Key) × (keys_of text ≡ some ks)
    by none q e = absurd (false≢true e)
    by (some ks) q e = (ks, q)

pub count_is_none : (text : List ℕ) → is_some (count_of (keys_of text)) ≡ false → keys_of text ≡ none
count_is_none text e = by (keys_of text) e
  where
    by : (o : Option (List Key)) → is_some (count_of o) ≡ false → o ≡ none
    by none e = refl
    by (some ks) e = absurd (true≢false e)

module _ {text : List ℕ} {shifted : ℕ} (k : Keys text shifted) (room : ℕ) where
  len : length (scancodes k.keys) ≡ 2 * (length text + shifted)
  len = typed_length text k.are ∙ rw k.count

  pub short_text : room / 2 < length text → typed room text ≡ refuses 26
  short_text h = typed_short text k.are room (omega (arith, len))

  pub short_shift : room / 2 - length text < shifted → typed room text ≡ refuses 26
  short_shift h = typed_short text k.are room (omega (arith, len))

  pub accepted : length text ≤ room / 2 → shifted ≤ room / 2 - length text → Accepted room text
  accepted h g = record { keys = k.keys; has_keys = k.are; fits = omega (arith, len) }

-- ---- a refusal

pub refused : (text out : List ℕ) (r : TypingRefusal) → typed (length out) text ≡ refuses (refusal_number r)
    → told (Err r) out ≡ leaves out (typed (length out) text)
refused text out r t = rw t

-- ---- what a call leaves

leaves-le : (out : List ℕ) (a : Answer (List ℕ)) → (leaves out a).count ≤ length (leaves out a).output
leaves-le out (gives codes) = omega (arith, length-append codes (drop (length codes) out))
leaves-le out (refuses n) = omega arith

-- no more bytes are counted than the output has
pub written_le : (text out : List ℕ) {written : ℕ} {left : List ℕ} → told (Ok written) left ≡ leaves out (typed (length out) text) → written ≤ length left
written_le text out {written} {left} e = subst⁻¹ (λ (o : Outcome). o.count ≤ length o.output) e (leaves-le out (typed (length out) text))
