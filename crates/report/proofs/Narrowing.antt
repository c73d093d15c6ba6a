-- The 32-bit report: numbers within its limits fit its types, and a session's end read off from what was settled.
use mathlib.Core.Path.{◌≡◌}
use mathlib.Core.Bool.{true, and-eq-true_iff}
use Prim.Native.Nat.{◌<◌}
use native.Mathlib.Omega.{arith}
use lib.IntN.{ℤ, pos, negsuc}
use lib.Signed.{mag}
use mir.Syntax.{w32, w64}
use mir.Val.{SFits, to_z, of_z}
use mir.Facts.{to_z-of_z}
use lib.Dec.{leb}
use borrow.Author.Tests.{leb-true}
use Rattle.report.specs.Adding.{between}
use Rattle.report.specs.Narrow.{narrow_limits}

pub narrow_mag : (z : ℤ) → between narrow_limits.low narrow_limits.high z ≡ true → mag z < 2147483648
narrow_mag (pos n) e = omega (arith, leb-true n 2147483647 e)
narrow_mag (negsuc n) e = omega (arith, leb-true n 2147483647 ((and-eq-true_iff (leb n 2147483647) true).0 e).0)

-- a number of 64 bits that was narrowed, read back
pub narrow_back : (y z : ℤ) → SFits w64 z → mag z < 2147483648 → y ≡ to_z w64 (of_z w64 z) → to_z w32 (of_z w32 y) ≡ z
narrow_back y z f h e = rw (e, to_z-of_z {w = w64} f) (to_z-of_z {w = w32} {z = z} (record { sfits = h }))

-- what narrowing gave of a number that fits, read back
pub narrow_told : {y : ℤ} (z : ℤ) → SFits w64 z → mag z < 2147483648 → (mag (to_z w64 (of_z w64 z)) < 2147483648 → y ≡ to_z w64 (of_z w64 z)) → to_z w32 (of_z w32 y) ≡ z
narrow_told {y} z f h e = narrow_back y z f h (e (rw (to_z-of_z {w = w64} f) h))
