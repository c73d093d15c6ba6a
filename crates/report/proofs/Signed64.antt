-- Signed numbers of 64 bits: by their sign, what `!` and casts make of them, and sums that fit.
use mathlib.Core.Path.{◌≡◌, refl, ◌∙◌}
use mathlib.Core.Bool.{true, false, and-false}
use Prim.Native.Nat.{ℕ, ◌<◌, ◌≤◌}
use native.Mathlib.Decide.{dec_lt}
use native.Mathlib.Omega.{arith}
use borrow.Author.Tests.{lt-leb}
use lib.IntN.{ℤ, pos, negsuc, ◌+ℤ◌}
use lib.Signed.{le_z, mag}
use mir.Syntax.{w32, w64}
use mir.Val.{SFits, to_z, of_z}
use mir.Facts.{to_z-of_z}
use Rattle.report.proofs.Sums.{widened}
use Rattle.std.specs.Prelude.{Result}
use Rattle.report.specs.declared.OutOfRange.{OutOfRange}
use Rattle.report.specs.Adding.{between, sum_within}

abbrev pub half : ℕ
half = 9223372036854775808

abbrev pub most : ℕ
most = 18446744073709551615

-- below 0
pub record Neg (z : ℤ) : Type 0 where
  pub k : ℕ
  pub is : z ≡ negsuc k
  pub low : k < half

-- from 0 up
pub record Pos (z : ℤ) : Type 0 where
  pub s : ℕ
  pub is : z ≡ pos s
  pub low : s < half

-- ---- ranges
-- a number that 64 bits don't hold is in no range that they hold
pub not_between : (low high z : ℤ) → mag low < half → mag high < half → half ≤ mag z → between low high z ≡ false
not_between low (pos h) (pos n) f g k = rw (lt-leb n h (omega arith)) (and-false (le_z low (pos n)))
not_between low (negsuc h) (pos n) f g k = and-false (le_z low (pos n))
not_between (pos l) high (negsuc n) f g k = refl
not_between (negsuc l) high (negsuc n) f g k = rw (lt-leb n l (omega arith))

-- a number in a range that 64 bits hold is one of theirs
pub between_fits : (low high z : ℤ) → mag low < half → mag high < half → between low high z ≡ true → mag z < half
between_fits low high z f g e = go (dec_lt (mag z) half)
  where
    go : Dec (mag z < half) → mag z < half
    go (yes h) = h
    go (no h) = absurd (let n : between low high z ≡ false = not_between low high z f g (omega arith) in let b : ◌≡◌ {A = ℕ} 0 1 = cc in omega arith)

pub read_back : (low high y z : ℤ) → mag low < half → mag high < half → between low high y ≡ true → z ≡ y → to_z w64 (of_z w64 z) ≡ y
read_back low high y z f g e s = to_z-of_z {w = w64} {z = z} (record { sfits = rw s (between_fits low high y f g e) }) ∙ s

-- a number of 32 bits that was widened, read back
pub wide_back : (y z : ℤ) → SFits w32 z → y ≡ to_z w32 (of_z w32 z) → to_z w64 (of_z w64 y) ≡ z
wide_back y z f e = rw e (widened {w = w32} tt f)

-- two sums that were added, read back from their bits
pub sum_read : (low high a b : ℤ) {r : Result ℤ OutOfRange} → SFits w64 low → SFits w64 high → SFits w64 a → SFits w64 b
    → r ≡ sum_within (to_z w64 (of_z w64 low)) (to_z w64 (of_z w64 high)) (to_z w64 (of_z w64 a) +ℤ to_z w64 (of_z w64 b)) → r ≡ sum_within low high (a +ℤ b)
sum_read low high a b f g h k e = rw (to_z-of_z {w = w64} f, to_z-of_z {w = w64} g, to_z-of_z {w = w64} h, to_z-of_z {w = w64} k) at e
