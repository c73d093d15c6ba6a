-- A mask with a bit for each key.
use mathlib.Core.Path.{◌≡◌, ap, ◌∙◌}
use mathlib.Core.Bool.{not}
use Prim.Native.Nat.{ℕ, ◌*◌, ◌%◌, ◌^◌, ◌<◌}
use lib.Bits.{bit_and}
use lib.Dec.{eqb}
use Rattle.bits.specs.Bits.{bit}
use Rattle.bits.proofs.Masks.{one_shl, test_mask}

-- a key's bit, as the code tests it
pub tested : (n mask code : ℕ) → code < n → not (eqb (bit_and mask (1 * 2 ^ code % 2 ^ n)) 0) ≡ bit code mask
tested n mask code h = ap (λ (m : ℕ). not (eqb (bit_and mask m) 0)) (one_shl n code h) ∙ test_mask code mask
