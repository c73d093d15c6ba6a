-- Numbers within their limits: what a count or a sum that was tried says, and counts that are being added.
use mathlib.Core.Path.{◌≡◌, refl}
use mathlib.Core.Bool.{Bool, true, false, cond, and-false, and-eq-true_iff}
use mathlib.Core.List.{List, [], ◌∷◌}
use Prim.Native.Nat.{ℕ, zero, suc, ◌+◌, ◌≤◌, ◌<◌}
use native.Mathlib.Decide.{ℕ_discrete}
use native.Mathlib.Omega.{arith}
use lib.Dec.{leb}
use lib.ListN.{length, get_or}
use borrow.Author.Tests.{le-leb, lt-leb, leb-true, leb-false}
use Rattle.report.specs.Keys.{key_count, values_from, for_each_key}
use Rattle.report.proofs.Keys.{keys_are}
use Rattle.report.specs.declared.sessions.Totals.{Totals}
use Rattle.report.specs.declared.Limits.{Limits}
use Rattle.std.specs.Prelude.{Ok, Err}
use Rattle.report.specs.declared.OutOfRange.{OutOfRange}
use Rattle.report.specs.Adding.{at_most, between, in_range, out_of_range, count_within, counts_within}

-- ---- a choice by a test

pub cond_ok : {A : Type 0} (b : Bool) (x : A) {y : A} → cond b (Ok x) (Err out_of_range) ≡ Ok y → (b ≡ true) × (y ≡ x)
cond_ok true x e = (refl, (cc))
cond_ok false x e = absurd (cc)

pub cond_err : {A : Type 0} (b : Bool) (x : A) {d : OutOfRange} → cond b (Ok x) (Err out_of_range) ≡ Err d → b ≡ false
cond_err true x e = absurd (cc)
cond_err false x e = refl

-- ---- a number for each key

pub at_most_all : (most from n : ℕ) (f : ℕ → ℕ) → ((k : ℕ) → k < from + n → f k ≤ most) → at_most most (values_from from n f) ≡ true
unfolding at_most values_from
at_most_all most from zero f h = refl
at_most_all most from (suc n) f h = rw (le-leb (f from) most (h from (omega arith))) (at_most_all most (suc from) n f (λ k l. h k (omega arith)))

pub at_most_not : (most from n : ℕ) (f : ℕ → ℕ) (k : ℕ) → from ≤ k → k < from + n → most < f k → at_most most (values_from from n f) ≡ false
unfolding at_most values_from
at_most_not most from zero f k g l h = absurd (omega arith)
at_most_not most from (suc n) f k g l h = go (ℕ_discrete from k) (λ e. at_most_not most (suc from) n f k (omega arith) (omega arith) h)
  where
    go : Dec (from ≡ k) → ((from ≡ k → ⊥) → at_most most (values_from (suc from) n f) ≡ false) → at_most most (values_from from (suc n) f) ≡ false
    go (yes e) behind = let b : most < f from = rw e h in rw (lt-leb (f from) most b)
    go (no e) behind = rw (behind e) (and-false (leb (f from) most))

pub at_most_at : (most : ℕ) (l : List ℕ) → at_most most l ≡ true → (k : ℕ) → get_or l k 0 ≤ most
unfolding at_most
at_most_at most [] e k = omega arith
at_most_at most (n ∷ l) e zero = leb-true n most ((and-eq-true_iff (leb n most) _).0 e).0
at_most_at most (n ∷ l) e (suc k) = at_most_at most l ((and-eq-true_iff (leb n most) _).0 e).1 k

-- each number by itself
pub record InRange (l : Limits) (t : Totals) : Type 0 where
  pub counts : at_most l.count t.presses ≡ true
  pub packets_low : t.packets ≤ l.count
  pub x_in : between l.low l.high t.x ≡ true
  pub y_in : between l.low l.high t.y ≡ true

pub in_range_lem : (l : Limits) (t : Totals) → in_range l t ≡ true → InRange l t
unfolding in_range
in_range_lem l t e =
    let p = (and-eq-true_iff (at_most l.count t.presses) _).0 e in
    let n = (and-eq-true_iff (leb t.packets l.count) _).0 p.1 in
    let z = (and-eq-true_iff (between l.low l.high t.x) _).0 n.1 in
    record { counts = p.0; packets_low = leb-true _ _ n.0; x_in = z.0; y_in = z.1 }

-- ---- counts that are being added

pub record Adding (most : ℕ) (old more : List ℕ) (i : ℕ) (counts : List ℕ) : Type 0 where
  pub long : length counts ≡ key_count
  pub at : (k : ℕ) → k < i → get_or counts k 0 ≡ get_or old k 0 + get_or more k 0
  pub fit : (k : ℕ) → k < i → get_or old k 0 + get_or more k 0 ≤ most

module _ {most : ℕ} {old more : List ℕ} {i : ℕ} {counts : List ℕ} (a : Adding most old more i counts) where
  abbrev Sums : List ℕ
  Sums = for_each_key (λ key. get_or old key 0 + get_or more key 0)

  pub adding_fails : {d : OutOfRange} → i < key_count → count_within most (get_or old i 0 + get_or more i 0) ≡ Err d → Err out_of_range ≡ counts_within most Sums
  adding_fails h e =
      let above : most < get_or old i 0 + get_or more i 0 = leb-false _ _ (cond_err (leb (get_or old i 0 + get_or more i 0) most) _ e) in
      let no : at_most most Sums ≡ false = at_most_not most 0 key_count (λ key. get_or old key 0 + get_or more key 0) i (omega arith) (omega arith) above in
      rw no

  pub adding_ends : key_count ≤ i → Ok counts ≡ counts_within most Sums
  adding_ends h =
      let yes : at_most most Sums ≡ true = at_most_all most 0 key_count _ (λ k l. a.fit k (omega arith)) in
      rw (yes, keys_are counts (λ key. get_or old key 0 + get_or more key 0) a.long (λ k l. a.at k (omega arith)))
