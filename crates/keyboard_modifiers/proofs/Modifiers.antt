-- A question about flags: sharing a bit with a flag's mask is having the flag; with two flags joined, having either.
use mathlib.Core.Path.{◌≡◌, ap, ◌∙◌}
use mathlib.Core.Bool.{Bool, ◌||◌}
use Prim.Native.Nat.{ℕ, ◌^◌}
use lib.Dec.{T, ltb, lit<}
use Rattle.bits.specs.Bits.{bit, bitwise, meet}
use Rattle.bits.proofs.Masks.{meet-pow, meet_or}

pub asks_one : (k x : ℕ) {r : Bool} → T (ltb k 16) → r ≡ meet 16 x (2 ^ k) → r ≡ bit k x
asks_one k x t e = e ∙ meet-pow 16 k x (lit< t)

pub asks_either : (j k x y : ℕ) {r : Bool} → T (ltb j 16) → T (ltb k 16) → y ≡ bitwise ◌||◌ 16 (2 ^ j) (2 ^ k) → r ≡ meet 16 x y
    → r ≡ (bit j x || bit k x)
asks_either j k x y t u ey e =
    e ∙ ap (meet 16 x) ey ∙ meet_or 16 x (2 ^ j) (2 ^ k) ∙ rw (meet-pow 16 j x (lit< t), meet-pow 16 k x (lit< u))
