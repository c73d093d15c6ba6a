-- How long codings are.
use mathlib.Core.Path.{◌≡◌, refl, sym, ◌∙◌}
use mathlib.Core.Bool.{Bool, true, false, cond}
use mathlib.Core.List.{List, [], ◌∷◌}
use mathlib.Core.Option.{some, none-ne-some, some-injective}
use Prim.Native.Nat.{ℕ, zero, suc, ◌+◌, ◌-◌, ◌/◌, ◌%◌, ◌<◌, ◌≤◌}
use native.Mathlib.Omega.{arith}
use lib.Dec.{ltb}
use lib.ListN.{length}
use borrow.Author.Tests.{ltb-true, ltb-false}
use Rattle.preferences.specs.Coding.{most_groups, coding_within, coding}
use Rattle.preferences.specs.NumberReading.{groups_of, value_of}
use Rattle.preferences.proofs.Groups.{Begins, last, more, Found, nothing, found, find, value_first, value_one}
use Rattle.preferences.proofs.Lengths.{within_last, within_more, length_some}

pub coding_some : (n : ℕ) → 0 < length (coding n)
coding_some n = length_some 4 n

within_most : (k n : ℕ) → length (coding_within k n) ≤ k
unfolding coding_within
within_most zero n = omega arith
within_most (suc k) n = by (ltb n 128) (within_most k (n / 128))
  where
    by : (t : Bool) → length (coding_within k (n / 128)) ≤ k → length (cond t (n ∷ []) ((n % 128 + 128) ∷ coding_within k (n / 128))) ≤ suc k
    by true h = omega arith
    by false h = omega arith

-- "at most five bytes"
pub coding_most : (n : ℕ) → length (coding n) ≤ most_groups
coding_most n = within_most most_groups n

-- No groups that make a number are fewer than its coding's: the shortest form.
within_shortest : (k : ℕ) {bytes gs : List ℕ} → Begins bytes gs → length (coding_within k (value_of gs)) ≤ length gs
within_shortest zero {gs = gs} g = omega (arith, within_most zero (value_of gs))
within_shortest (suc k) (last {b} h) = rw (value_one b, within_last k b h) (omega arith)
within_shortest (suc k) (more {b} {bytes} {gs} h l g) = by (ltb (value_of ((b - 128) ∷ gs)) 128) refl (within_shortest k g)
  where
    by : (t : Bool) → ltb (value_of ((b - 128) ∷ gs)) 128 ≡ t → length (coding_within k (value_of gs)) ≤ length gs
        → length (coding_within (suc k) (value_of ((b - 128) ∷ gs))) ≤ length ((b - 128) ∷ gs)
    by true e f = rw (within_last k (value_of ((b - 128) ∷ gs)) (ltb-true _ 128 e)) (omega arith)
    by false e f =
        let q : value_of ((b - 128) ∷ gs) / 128 ≡ value_of gs = rw (value_first (b - 128) gs) (omega arith) in
        rw (within_more k (value_of ((b - 128) ∷ gs)) (ltb-false _ 128 e), q) (omega arith)

pub coding_shortest : (bytes gs : List ℕ) → groups_of bytes ≡ some gs → length (coding (value_of gs)) ≤ length gs
coding_shortest bytes gs e = by (find bytes)
  where
    by : Found bytes → length (coding (value_of gs)) ≤ length gs
    by (nothing q) = absurd (none-ne-some gs (sym q ∙ e))
    by (found hs q g) = rw (some-injective _ _ (sym q ∙ e)) at (within_shortest most_groups g)
