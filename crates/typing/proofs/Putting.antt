-- The scancodes of a text, put into an output one key after another.
use mathlib.Core.Path.{◌≡◌, refl, sym, ap, ap₂, subst, ◌∙◌}
use mathlib.Core.List.{List, [], ◌∷◌, ◌++◌, append-nil, append_assoc}
use mathlib.Core.Option.{some, some-injective, none-ne-some}
use Prim.Native.Nat.{ℕ, suc, ◌+◌, ◌-◌, ◌<◌, ◌≤◌}
use native.Mathlib.Numerals.{add-one}
use native.Mathlib.Omega.{arith}
use lib.ListN.{length, get_or, set, drop, length-append, length-drop, drop_of_length-le}
use lib.Seq.{drop-cons, sets, sets-eq, take-append_seam, drop-append-add, drop-drop}
use Rattle.std.specs.Prelude.{Ok}
use Rattle.exchange.specs.Answer.{gives}
use Rattle.ps2_answers.specs.Refusals.{success}
use Rattle.keycodes_ascii.specs.Keycode.{number_of}
use Rattle.typing.specs.Keys.{Key, key_of, keys_of}
use Rattle.typing.specs.Typing.{strokes_of, scancodes, Accepted, typed, outcome, leaves, told}
use Rattle.typing.specs.Table.{or_none}
use Rattle.typing.proofs.Texts.{Keyed, no_text, one_key, keyed}
use Rattle.typing.proofs.Table.{Entry, no_entry, plain, shifted, entry}
use Rattle.typing.proofs.Lengths.{typed_fits}

-- ---- an output of which a part is written

puts_over : (put more before : List ℕ) → length put + length more ≤ length before
    → sets (put ++ drop (length put) before) (length put) more ≡ (put ++ more) ++ drop (length (put ++ more)) before
puts_over put more before h =
    let rest = drop (length put) before in
    sets-eq more (put ++ rest) (length put) (omega (arith, length-append put rest, length-drop (length put) before))
    ∙ rw (take-append_seam put rest, drop-append-add put rest (length more), drop-drop (length more) (length put) before, length-append put more, append_assoc put more (drop (length put + length more) before))

-- ---- the strokes of a key, by its number in the table

module _ {c : ℕ} {k : Key} (e : key_of c ≡ some k) where
  pub strokes_shift : {n : ℕ} → Entry c n → 0x80 ≤ n → strokes_of k ≡ 0x2A ∷ (n - 0x80) ∷ (n - 0x80 + 0x80) ∷ 0xAA ∷ []
  unfolding strokes_of
  strokes_shift (no_entry q) l = absurd (omega arith)
  strokes_shift (plain j q h m) l = absurd (omega arith)
  strokes_shift (shifted j q h m) l =
      let z : number_of j + 0x80 - 0x80 ≡ number_of j = omega arith in
      ap strokes_of (some-injective _ _ (sym e ∙ q)) ∙ rw z

  pub strokes_plain : {n : ℕ} → Entry c n → n < 0x80 → strokes_of k ≡ n ∷ (n + 0x80) ∷ []
  unfolding strokes_of
  strokes_plain (no_entry q) l = absurd (none-ne-some k (sym q ∙ e))
  strokes_plain (plain j q h m) l = ap strokes_of (some-injective _ _ (sym e ∙ q))
  strokes_plain (shifted j q h m) l = absurd (omega arith)

-- ---- up to a place

pub record Putting (text before : List ℕ) (i at : ℕ) (out : List ℕ) : Type 0 where
  pub keys : List Key
  pub are : keys_of text ≡ some keys
  pub fits : length (scancodes keys) ≤ length before
  -- what is put, and the keys that are left
  pub put : List ℕ
  pub left : List Key
  pub left_keys : Keyed (drop i text) left
  pub whole : scancodes keys ≡ put ++ scancodes left
  pub place : at ≡ length put
  pub holds : out ≡ put ++ drop (length put) before

pub putting_begins : (text before : List ℕ) → Accepted (length before) text → Putting text before 0 0 before
putting_begins text before a =
    record {
      keys = a.keys;
      are = a.has_keys;
      fits = a.fits;
      put = [];
      left = a.keys;
      left_keys = keyed text a.has_keys;
      whole = refl;
      place = refl;
      holds = refl;
    }

-- the first key of a text
record Next (c : ℕ) (text : List ℕ) (ks : List Key) : Type 0 where
  pub one : Key
  pub others : List Key
  pub is_one : key_of c ≡ some one
  pub all : ks ≡ one ∷ others
  pub others_keys : Keyed text others

next_key : {c : ℕ} {text : List ℕ} {ks : List Key} → Keyed (c ∷ text) ks → Next c text ks
next_key (one_key {k = k} {ks = ks} e h) = record { one = k; others = ks; is_one = e; all = refl; others_keys = h }

scancodes_first : (k : Key) (ks : List Key) → scancodes (k ∷ ks) ≡ strokes_of k ++ scancodes ks
unfolding scancodes
scancodes_first k ks = refl

module _ {text before out : List ℕ} {i at : ℕ} (h : Putting text before i at out) where
  written_le : length h.put + length (scancodes h.left) ≤ length before
  written_le = omega (arith, h.fits, ap length h.whole ∙ length-append h.put (scancodes h.left))

  pub putting_length : length out ≡ length before
  putting_length = ap length h.holds ∙ length-append h.put (drop (length h.put) before) ∙ rw (length-drop (length h.put) before) (omega (arith, written_le))

  module _ (l : i < length text) where
    next : Next (get_or text i 0) (drop (i + 1) text) h.left
    next = next_key (subst (λ (t : List ℕ). Keyed t h.left) (rw (add-one i) (drop-cons text i 0 l)) h.left_keys)

    left_first : scancodes h.left ≡ strokes_of next.one ++ scancodes next.others
    left_first = ap scancodes next.all ∙ scancodes_first next.one next.others

    room_for : at + length (strokes_of next.one) ≤ length out
    room_for = omega (arith, written_le, putting_length, h.place, ap length left_first ∙ length-append (strokes_of next.one) (scancodes next.others))

    goes_on : Putting text before (i + 1) (at + length (strokes_of next.one)) (sets out at (strokes_of next.one))
    goes_on =
        let strokes = strokes_of next.one in
        record {
          keys = h.keys;
          are = h.are;
          fits = h.fits;
          put = h.put ++ strokes;
          left = next.others;
          left_keys = next.others_keys;
          whole = h.whole ∙ ap (λ (m : List ℕ). h.put ++ m) left_first ∙ sym (append_assoc h.put strokes (scancodes next.others));
          place = ap (λ (p : ℕ). p + length strokes) h.place ∙ sym (length-append h.put strokes);
          holds =
              ap₂ (λ (o : List ℕ) (p : ℕ). sets o p strokes) h.holds h.place
              ∙ puts_over h.put strokes before (omega (arith, room_for, putting_length, h.place));
        }

    module _ {n : ℕ} (q : n ≡ or_none (key_of (get_or text i 0))) where
      here : Entry (get_or text i 0) n
      here = rw q (entry (get_or text i 0))

      pub room_shift : 0x80 ≤ n → at + 4 ≤ length out
      room_shift s = rw (strokes_shift next.is_one here s) at room_for

      pub room_plain : n < 0x80 → at + 2 ≤ length out
      room_plain s = rw (strokes_plain next.is_one here s) at room_for

      -- the code stores the strokes one after another
      pub puts_shift : 0x80 ≤ n → Putting text before (i + 1) (at + 4) (set (set (set (set out at 0x2A) (at + 1) (n - 0x80)) (at + 2) (n - 0x80 + 0x80)) (at + 3) 0xAA)
      puts_shift s =
          let one : at + 1 ≡ suc at = omega arith in
          let two : at + 2 ≡ suc (suc at) = omega arith in
          let three : at + 3 ≡ suc (suc (suc at)) = omega arith in
          rw (one, two, three) (rw (strokes_shift next.is_one here s) at goes_on)

      pub puts_plain : n < 0x80 → Putting text before (i + 1) (at + 2) (set (set out at n) (at + 1) (n + 0x80))
      puts_plain s =
          let one : at + 1 ≡ suc at = omega arith in
          rw one (rw (strokes_plain next.is_one here s) at goes_on)

  -- at the end of the text everything is put
  pub putting_ends : length text ≤ i → told (Ok at) out ≡ leaves before (typed (length before) text)
  unfolding scancodes
  putting_ends l = sym (ap (leaves before) (typed_fits text h.are (length before) h.fits ∙ ap gives all) ∙ ap₂ (outcome (gives success)) (sym h.place) (sym h.holds))
    where
      none_left : {ks : List Key} → Keyed [] ks → scancodes ks ≡ []
      none_left no_text = refl

      all : scancodes h.keys ≡ h.put
      all = h.whole ∙ ap (λ (m : List ℕ). h.put ++ m) (none_left (subst (λ (t : List ℕ). Keyed t h.left) (drop_of_length-le text l) h.left_keys)) ∙ append-nil h.put
