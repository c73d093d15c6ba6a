-- How many bytes a number takes.
use mathlib.Core.Path.{◌≡◌, refl, ap, ◌∙◌}
use mathlib.Core.Bool.{Bool, true, false}
use mathlib.Core.List.{[], ◌∷◌}
use Prim.Native.Nat.{ℕ, suc, ◌+◌, ◌/◌, ◌%◌, ◌<◌, ◌≤◌}
use native.Mathlib.Omega.{arith}
use lib.Dec.{ltb}
use lib.ListN.{length}
use borrow.Author.Tests.{lt-ltb, le-ltb, ltb-true, ltb-false}
use Rattle.preferences.specs.Coding.{coding_within, coding}

-- ---- the last group, and one that others follow

pub within_last : (k n : ℕ) → n < 128 → coding_within (suc k) n ≡ n ∷ []
unfolding coding_within
within_last k n h = rw (lt-ltb n 128 h)

pub within_more : (k n : ℕ) → 128 ≤ n → coding_within (suc k) n ≡ (n % 128 + 128) ∷ coding_within k (n / 128)
unfolding coding_within
within_more k n h = rw (le-ltb n 128 h)

-- ---- each count

pub length_some : (k n : ℕ) → 0 < length (coding_within (suc k) n)
length_some k n = by (ltb n 128) refl
  where
    by : (t : Bool) → ltb n 128 ≡ t → 0 < length (coding_within (suc k) n)
    by true e = rw (within_last k n (ltb-true n 128 e)) (omega arith)
    by false e = rw (within_more k n (ltb-false n 128 e)) (omega arith)

pub length_last : (k n : ℕ) → n < 128 → length (coding_within (suc k) n) ≡ 1
length_last k n h = ap length (within_last k n h)

pub length_more : (k n : ℕ) → 128 ≤ n → length (coding_within (suc k) n) ≡ suc (length (coding_within k (n / 128)))
length_more k n h = ap length (within_more k n h)

module _ (n : ℕ) where
  pub two_bytes : 0x80 ≤ n → n < 0x4000 → length (coding n) ≡ 2
  two_bytes h l = length_more 4 n h ∙ ap suc (length_last 3 (n / 128) (omega arith))

  pub three_bytes : 0x4000 ≤ n → n < 0x200000 → length (coding n) ≡ 3
  three_bytes h l =
      length_more 4 n (omega arith)
      ∙ ap suc (length_more 3 (n / 128) (omega arith) ∙ ap suc (length_last 2 (n / 128 / 128) (omega arith)))

  pub four_bytes : 0x200000 ≤ n → n < 0x10000000 → length (coding n) ≡ 4
  four_bytes h l =
      length_more 4 n (omega arith)
      ∙ ap suc (length_more 3 (n / 128) (omega arith) ∙ ap suc (length_more 2 (n / 128 / 128) (omega arith) ∙ ap suc (length_last 1 (n / 128 / 128 / 128) (omega arith))))

  pub five_bytes : 0x10000000 ≤ n → n < 0x800000000 → length (coding n) ≡ 5
  five_bytes h l =
      length_more 4 n (omega arith)
      ∙ ap suc
      (length_more 3 (n / 128) (omega arith)
      ∙ ap suc
      (length_more 2 (n / 128 / 128) (omega arith)
      ∙ ap suc (length_more 1 (n / 128 / 128 / 128) (omega arith) ∙ ap suc (length_last 0 (n / 128 / 128 / 128 / 128) (omega arith)))))
