-- A sum of movements: its size, and a signed number that is widened.
use mathlib.Core.Path.{◌≡◌, ap, ◌∙◌}
use Prim.Native.Nat.{ℕ, suc, ◌+◌, ◌<◌, ◌≤◌}
use native.Mathlib.Decide.{dec_lt}
use native.Mathlib.Omega.{arith}
use lib.IntN.{ℤ, pos, negsuc, ◌+ℤ◌, sub_ℕ}
use lib.Signed.{mag}
use lib.Dec.{T, leb}
use mir.Syntax.{Width, w64}
use mir.Val.{hbits, SFits, to_z, of_z}
use mir.Facts.{sfits_widen, to_z-of_z}
use borrow.Author.Tests.{lt-ltb, le-ltb}

mag_sub : (m n : ℕ) → Dec (m < n) → mag (sub_ℕ m n) ≤ m + n
mag_sub m n (yes h) = rw (lt-ltb m n h) (omega arith)
mag_sub m n (no h) = rw (le-ltb m n (omega arith)) (omega arith)

-- `mag` is n of n and of -(n + 1)
pub mag-add : (a b : ℤ) → mag (a +ℤ b) ≤ mag a + mag b + 1
mag-add (pos a) (pos b) = omega arith
mag-add (pos a) (negsuc b) = omega (arith, mag_sub a (suc b) (dec_lt a (suc b)))
mag-add (negsuc a) (pos b) = omega (arith, mag_sub b (suc a) (dec_lt b (suc a)))
mag-add (negsuc a) (negsuc b) = omega arith

-- a number that fits w, read from its bits at w, written at 64 and read again
pub widened : {w : Width} {z : ℤ} → T (leb (hbits w) (hbits w64)) → SFits w z → to_z w64 (of_z w64 (to_z w (of_z w z))) ≡ z
widened n f = ap (λ (y : ℤ). to_z w64 (of_z w64 y)) (to_z-of_z f) ∙ to_z-of_z {w = w64} (sfits_widen n f)

-- a sum far enough from the ends of 64 bits, with a movement more
pub movement_fits : (sum movement : ℤ) → mag sum < 9223372036854710272 → mag movement ≤ 255 → SFits w64 (sum +ℤ movement)
movement_fits sum movement h k = record { sfits = omega (arith, mag-add sum movement) }
