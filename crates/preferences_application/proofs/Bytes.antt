-- Within its values each field is a byte.
use mathlib.Core.Bool.{Bool, true, false, ◌&&◌, ◌||◌, and-eq-true_iff}
use mathlib.Core.List.{List, [], ◌∷◌}
use mathlib.Core.Path.{◌≡◌, refl, sym, ◌∙◌, subst}
use Prim.Native.Nat.{ℕ, ◌≤◌}
use native.Mathlib.Omega.{arith}
use lib.Dec.{T, eqb, leb}
use borrow.Author.Tests.{leb-true, eqb-true}
use Rattle.bits.proofs.Every.{each}
use Rattle.exchange.specs.Refuses.{among}
use Rattle.preferences.specs.declared.Fields.{Fields}
use Rattle.preferences.specs.declared.Preferences.TheVariants.{Version1, Version2}
use Rattle.preferences.specs.Values.{is_scancode_set, is_sampling_rate, is_resolution, is_lamps, is_repeat_byte}
use Rattle.preferences.specs.Record.{within_values}
use Rattle.preferences.proofs.Values.{within_four, within_fifth}

-- one of some numbers is at most what they all are
module _ (n k : ℕ) where
  or_below : (a b : Bool) → (a || b) ≡ true → (a ≡ true → n ≤ k) → (b ≡ true → n ≤ k) → n ≤ k
  or_below true b q l r = l refl
  or_below false b q l r = r q

  among_below : (ns : List ℕ) → each (λ m. leb m k) ns ≡ true → among n ns ≡ true → n ≤ k
  among_below [] t q = absurd (subst T (sym q) tt)
  among_below (m ∷ ns) t q =
      or_below (eqb n m) (among n ns) q
      (λ e. omega (arith, eqb-true n m e, leb-true m k ((and-eq-true_iff (leb m k) (each (λ m. leb m k) ns)).0 t).0))
      (λ e. among_below ns ((and-eq-true_iff (leb m k) (each (λ m. leb m k) ns)).0 t).1 e)

-- ---- each field

pub set_most : (n : ℕ) → is_scancode_set n ≡ true → n ≤ 3
set_most n q = leb-true n 3 ((and-eq-true_iff (leb 1 n) (leb n 3)).0 q).1

pub rate_most : (n : ℕ) → is_sampling_rate n ≡ true → n ≤ 200
rate_most n q = among_below n 200 (10 ∷ 20 ∷ 40 ∷ 60 ∷ 80 ∷ 100 ∷ 200 ∷ []) refl q

pub resolution_most : (n : ℕ) → is_resolution n ≡ true → n ≤ 3
resolution_most n q = leb-true n 3 q

-- ---- the fields of a record

-- each of the four is within its own values
pub record FourWithin (four : Fields) : Type 0 where
  pub set_in : is_scancode_set four.set ≡ true
  pub rate_in : is_sampling_rate four.rate ≡ true
  pub resolution_in : is_resolution four.resolution ≡ true
  pub lamps_in : is_lamps four.lamps ≡ true

pub four_within : (four : Fields) → within_values (Version1 four) ≡ true → FourWithin four
four_within four q =
    let s = is_scancode_set four.set in
    let r = is_sampling_rate four.rate in
    let e = is_resolution four.resolution in
    let l = is_lamps four.lamps in
    let a = (and-eq-true_iff s (r && (e && l))).0 (within_four four ∙ q) in
    let b = (and-eq-true_iff r (e && l)).0 a.1 in
    let c = (and-eq-true_iff e l).0 b.1 in
    record { set_in = a.0; rate_in = b.0; resolution_in = c.0; lamps_in = c.1 }

module _ (four : Fields) (again : ℕ) (q : within_values (Version2 four again) ≡ true) where
  -- a record of version 2 is within the values only where its four fields are, and the fifth
  pub first_four : within_values (Version1 four) ≡ true
  first_four = ((and-eq-true_iff (within_values (Version1 four)) (is_repeat_byte again)).0 (within_fifth four again ∙ q)).0
