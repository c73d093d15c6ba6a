-- Presses that are being counted: those counted so far, and those among the codes ahead, are those of all codes.
use mathlib.Core.Path.{◌≡◌, sym, ◌∙◌}
use mathlib.Core.Bool.{Bool, true, false}
use mathlib.Core.List.{List, [], ◌∷◌}
use Prim.Native.Nat.{ℕ, ◌+◌, ◌≤◌, ◌<◌}
use native.Mathlib.Numerals.{add-one}
use native.Mathlib.Decide.{ℕ_discrete}
use native.Mathlib.Omega.{arith}
use lib.Dec.{eqb}
use lib.ListN.{length, get_or, set, drop, replicate, length-set, length-replicate, get_or-replicate, drop_of_length-le}
use lib.Seq.{drop-cons, get_or-set_same, get_or-set_other}
use borrow.Author.Tests.{eq-eqb, ne_eqb}
use Rattle.bits.specs.Bits.{weigh}
use Rattle.report.specs.Keys.{key_count, for_each_key}
use Rattle.report.specs.Events.{presses}
use Rattle.report.proofs.Keys.{keys_are}

weigh_bound : (b : Bool) → weigh b ≤ 1
weigh_bound true = omega arith
weigh_bound false = omega arith

-- no more presses than codes
pub presses_bound : (key : ℕ) (codes : List ℕ) → presses key codes ≤ length codes
unfolding presses
presses_bound key [] = omega arith
presses_bound key (code ∷ codes) = omega (arith, weigh_bound (eqb code key), presses_bound key codes)

presses_next : (key : ℕ) (codes : List ℕ) (i : ℕ) → i < length codes
    → presses key (drop i codes) ≡ weigh (eqb (get_or codes i 0) key) + presses key (drop (i + 1) codes)
unfolding presses
presses_next key codes i h = rw (add-one, drop-cons codes i 0)

presses_none : (key : ℕ) (codes : List ℕ) (i : ℕ) → length codes ≤ i → presses key (drop i codes) ≡ 0
unfolding presses
presses_none key codes i h = let e : drop i codes ≡ [] = drop_of_length-le codes h in rw e

pub record Counting (codes : List ℕ) (i : ℕ) (counts : List ℕ) : Type 0 where
  pub long : length counts ≡ key_count
  pub at : (key : ℕ) → key < key_count → get_or counts key 0 + presses key (drop i codes) ≡ presses key codes

pub counting_begins : (codes : List ℕ) → Counting codes 0 (replicate 94 0)
counting_begins codes =
    record {
      long = length-replicate {A = ℕ} 94 0;
      at = λ key h. rw (get_or-replicate {A = ℕ} 94 key 0 0 h) (omega arith);
    }

module _ {codes : List ℕ} {i : ℕ} {counts : List ℕ} (c : Counting codes i counts) where
  -- one more is no more than there are codes
  pub counting_fits : (key : ℕ) → key < key_count → i < length codes → key ≡ get_or codes i 0 → get_or counts key 0 + 1 ≤ length codes
  counting_fits key h l e =
      let w : eqb (get_or codes i 0) key ≡ true = eq-eqb _ _ (sym e) in
      let n : presses key (drop i codes) ≡ 1 + presses key (drop (i + 1) codes) = presses_next key codes i l ∙ rw w in
      omega (arith, c.at key h, presses_bound key codes)

  counted : (key : ℕ) (h : key < key_count) (l : i < length codes) → (k : ℕ) → k < key_count → key ≡ get_or codes i 0 → Dec (k ≡ key)
      → get_or (set counts key (get_or counts key 0 + 1)) k 0 + presses k (drop (i + 1) codes) ≡ presses k codes
  counted key h l k b e (yes p) =
      let w : eqb (get_or codes i 0) k ≡ true = eq-eqb _ _ (sym (p ∙ e)) in
      let n : presses k (drop i codes) ≡ 1 + presses k (drop (i + 1) codes) = presses_next k codes i l ∙ rw w in
      let s : get_or (set counts key (get_or counts key 0 + 1)) k 0 ≡ get_or counts key 0 + 1 = rw p (get_or-set_same counts key _ 0 (rw c.long h)) in
      let a : get_or counts key 0 ≡ get_or counts k 0 = rw p in
      omega (arith, c.at k b)
  counted key h l k b e (no p) =
      let w : eqb (get_or codes i 0) k ≡ false = ne_eqb _ _ (λ q. p (sym q ∙ sym e)) in
      let n : presses k (drop i codes) ≡ 0 + presses k (drop (i + 1) codes) = presses_next k codes i l ∙ rw w in
      let s : get_or (set counts key (get_or counts key 0 + 1)) k 0 ≡ get_or counts k 0 = get_or-set_other counts key k _ 0 p in
      omega (arith, c.at k b)

  pub counting_press : (key : ℕ) → i < length codes → key ≡ get_or codes i 0 → key < key_count → Counting codes (i + 1) (set counts key (get_or counts key 0 + 1))
  counting_press key l e h =
      record {
        long = simp length-set c.long;
        at = λ k b. counted key h l k b e (ℕ_discrete k key);
      }

  pub counting_other : (key : ℕ) → i < length codes → key ≡ get_or codes i 0 → key_count ≤ key → Counting codes (i + 1) counts
  counting_other key l e h =
      record {
        long = c.long;
        at =
            λ k b.
            let w : eqb (get_or codes i 0) k ≡ false = ne_eqb _ _ (λ (q : get_or codes i 0 ≡ k). omega arith) in
            let n : presses k (drop i codes) ≡ 0 + presses k (drop (i + 1) codes) = presses_next k codes i l ∙ rw w in
            omega (arith, c.at k b);
      }

  pub counting_ends : length codes ≤ i → counts ≡ for_each_key (λ key. presses key codes)
  counting_ends h = keys_are counts _ c.long (λ key b. omega (arith, c.at key b, presses_none key codes i h))
