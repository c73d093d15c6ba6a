-- The count of the characters that need Shift, one after another.
use mathlib.Core.Path.{◌≡◌, refl, sym, ap, ◌∙◌}
use mathlib.Core.Bool.{Bool, true, false}
use mathlib.Core.List.{List, [], ◌∷◌}
use mathlib.Core.Option.{Option, none, some}
use Prim.Native.Nat.{ℕ, ◌+◌, ◌<◌, ◌≤◌}
use native.Mathlib.Nat.{add-zero, add_assoc}
use native.Mathlib.Numerals.{add-one}
use native.Mathlib.Omega.{arith}
use lib.ListN.{length, get_or, drop, drop_of_length-le}
use lib.Seq.{drop-cons}
use Rattle.std.specs.Prelude.{None, Some}
use Rattle.std.specs.Prelude as found
use Rattle.typing.specs.Keys.{Key, key_of, before, keys_of}
use Rattle.typing.specs.Lengths.{one_more, with_shift, count_of}
use Rattle.typing.specs.Table.{or_none}
use Rattle.typing.proofs.Texts.{keys_none, keys_first}
use Rattle.typing.proofs.Table.{Entry, no_entry, plain, shifted, entry}

-- a count behind another
abbrev pub plus : ℕ → found.Option ℕ → found.Option ℕ
plus n (Some m) = Some (n + m)
plus n None = None

plus-plus : (n m : ℕ) (x : found.Option ℕ) → plus n (plus m x) ≡ plus (n + m) x
plus-plus n m (Some l) = rw (add_assoc n m l)
plus-plus n m None = refl

-- ---- one character

one_count : (k : Key) (o : Option (List Key)) → count_of (before (some k) o) ≡ plus (one_more k.shift 0) (count_of o)
unfolding with_shift
one_count k none = refl
one_count k (some ks) = by k.shift
  where
    by : (shift : Bool) → Some (one_more shift (with_shift ks)) ≡ Some (one_more shift 0 + with_shift ks)
    by true = ap Some (omega arith)
    by false = ap Some (omega arith)

module _ (c : ℕ) (text : List ℕ) where
  count_key : {k : Key} → key_of c ≡ some k → count_of (keys_of (c ∷ text)) ≡ plus (one_more k.shift 0) (count_of (keys_of text))
  count_key {k} e = ap count_of (keys_first c text ∙ ap (λ (o : Option Key). before o (keys_of text)) e) ∙ one_count k (keys_of text)

  -- by its number in the table
  count_no_key : {n : ℕ} → Entry c n → n ≡ 0 → count_of (keys_of (c ∷ text)) ≡ None
  count_no_key (no_entry e) z = ap count_of (keys_first c text ∙ ap (λ (o : Option Key). before o (keys_of text)) e)
  count_no_key (plain k e h l) z = absurd (omega (arith, z))
  count_no_key (shifted k e h l) z = absurd (omega (arith, z))

  count_plain : {n : ℕ} → Entry c n → (n ≡ 0 → ⊥) → n < 0x80 → count_of (keys_of (c ∷ text)) ≡ plus 0 (count_of (keys_of text))
  count_plain (no_entry e) z l = absurd (z refl)
  count_plain (plain k e h m) z l = count_key e
  count_plain (shifted k e h m) z l = absurd (omega arith)

  count_shift : {n : ℕ} → Entry c n → (n ≡ 0 → ⊥) → 0x80 ≤ n → count_of (keys_of (c ∷ text)) ≡ plus 1 (count_of (keys_of text))
  count_shift (no_entry e) z l = absurd (z refl)
  count_shift (plain k e h m) z l = absurd (omega arith)
  count_shift (shifted k e h m) z l = count_key e

-- ---- up to a place

pub record Counting (text : List ℕ) (i n : ℕ) : Type 0 where
  pub few : n ≤ i
  pub all : count_of (keys_of text) ≡ plus n (count_of (keys_of (drop i text)))

module _ {text : List ℕ} {i n : ℕ} (h : Counting text i n) (l : i < length text) where
  next : drop i text ≡ get_or text i 0 ∷ drop (i + 1) text
  next = rw (add-one i) (drop-cons text i 0 l)

  counting_by : (m : ℕ) → m ≤ 1 → count_of (keys_of (get_or text i 0 ∷ drop (i + 1) text)) ≡ plus m (count_of (keys_of (drop (i + 1) text))) → Counting text (i + 1) (n + m)
  counting_by m s e =
      record {
        few = omega (arith, h.few);
        all = h.all ∙ ap (λ (t : List ℕ). plus n (count_of (keys_of t))) next ∙ ap (plus n) e ∙ plus-plus n m (count_of (keys_of (drop (i + 1) text)));
      }

  module _ {key : ℕ} (q : key ≡ or_none (key_of (get_or text i 0))) where
    is_key : Entry (get_or text i 0) key
    is_key = rw q (entry (get_or text i 0))

    pub counting_stops : key ≡ 0 → None ≡ count_of (keys_of text)
    counting_stops z = sym (h.all ∙ ap (λ (t : List ℕ). plus n (count_of (keys_of t))) next ∙ ap (plus n) (count_no_key (get_or text i 0) (drop (i + 1) text) is_key z))

    pub counting_shift : 0x80 ≤ key → Counting text (i + 1) (n + 1)
    counting_shift s = counting_by 1 (omega arith) (count_shift (get_or text i 0) (drop (i + 1) text) is_key (λ z. omega (arith, z)) s)

    pub counting_plain : (key ≡ 0 → ⊥) → key < 0x80 → Counting text (i + 1) n
    counting_plain z s = rw (add-zero n) at (counting_by 0 (omega arith) (count_plain (get_or text i 0) (drop (i + 1) text) is_key z s))

pub counting_ends : {text : List ℕ} {i n : ℕ} → Counting text i n → length text ≤ i → Some n ≡ count_of (keys_of text)
unfolding with_shift
counting_ends {text} {i} {n} h l = sym (h.all ∙ rw (drop_of_length-le text l, keys_none) (none_more n))
  where
    none_more : (n : ℕ) → plus n (count_of (some [])) ≡ Some n
    none_more n = rw (add-zero n)
