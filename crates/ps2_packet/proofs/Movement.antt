-- Movement: a nine-bit two's complement number from -256 to 255.
use mathlib.Core.Path.{◌≡◌, refl, ◌∙◌}
use mathlib.Core.Bool.{Bool, true, false, cond}
use Prim.Native.Nat.{ℕ, ◌+◌, ◌*◌, ◌<◌}
use native.Mathlib.Nat.{lt_trans}
use lib.Dec.{lit<}
use lib.IntN.{pos, negsuc, ◌-ℤ◌, ◌*ℤ◌}
use lib.Signed.{mag}
use mir.Syntax.{w64}
use mir.Val.{SFits}
use native.Mathlib.Numerals.{unary_clauses}
use lib.Bits.{bit_or}
use Rattle.bits.specs.Bits.{weigh, bitwise, odd}
use Rattle.bits.proofs.Masks.{or_bitwise, or_zero}
use Rattle.ps2_packet.specs.Signed.{less_if, twos_complement, Between}
use Rattle.ps2_packet.specs.Packet.{movement}
use Rattle.ps2_packet.proofs.Signed.{mag_less, mag_range, sign_apart}

mag-movement : (overflow sign : Bool) (b : ℕ) → b < 256 → mag (movement overflow sign b) < 256
mag-movement true sign b h = mag_less sign 256 255 (lit< tt)
mag-movement false sign b h = mag_less sign 256 b h

pub movement_range : (overflow sign : Bool) (b : ℕ) → b < 256 → Between (negsuc 255) (pos 255) (movement overflow sign b)
movement_range overflow sign b h = mag_range 255 (movement overflow sign b) (mag-movement overflow sign b h)

-- without overflow the byte with its sign bit is a nine-bit two's complement number, as the OSDev wiki has it
pub movement_nine_bits : (sign : Bool) (b : ℕ) → b < 256 → movement false sign b ≡ twos_complement 9 (weigh sign * 256 + b)
movement_nine_bits sign b h = sign_apart 8 b sign h

-- all ones put over a byte are 255, and no ones leave it
pub ones_over : (overflow : Bool) (b : ℕ) → b < 256 → bit_or (255 * weigh overflow) b ≡ cond overflow 255 b
unfolding bitwise odd
ones_over true b h = or_bitwise 8 255 b (lit< tt) h
ones_over false b h = or_bitwise 8 0 b (lit< tt) h ∙ or_zero 8 b h

-- 256 or 0, by the sign bit, fits 64 bits; a value less that is a movement, and fits them too
pub sign_fits : (sign : Bool) → SFits w64 (pos 256 *ℤ pos (weigh sign))
sign_fits true = record { sfits = lit< tt }
sign_fits false = record { sfits = lit< tt }

pub less_taken : (sign : Bool) (b : ℕ) → pos b -ℤ (pos 256 *ℤ pos (weigh sign)) ≡ less_if sign 256 b
less_taken true b = refl
less_taken false b = simp unary_clauses

pub movement_fits : (overflow sign : Bool) (b : ℕ) → b < 256 → SFits w64 (movement overflow sign b)
movement_fits overflow sign b h = record { sfits = lt_trans (mag-movement overflow sign b h) (lit< tt) }
