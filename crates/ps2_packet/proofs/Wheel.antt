-- The wheel: byte 4 as an i8, and its range.
use mathlib.Core.Path.{◌≡◌, sym, ap, ◌∙◌}
use mathlib.Core.Bool.{Bool, true, false, not}
use Prim.Native.Nat.{ℕ, ◌%◌, ◌<◌}
use native.Mathlib.Nat.{lt_trans, mod-eq_of_lt}
use native.Mathlib.Omega.{arith}
use lib.Dec.{ltb, lit<, le→leb}
use lib.IntN.{pos, negsuc}
use mir.Syntax.{w8}
use mir.Val.{SFits, to_z}
use Rattle.bits.specs.Bits.{bit}
use Rattle.ps2_packet.specs.Signed.{less_if, twos_complement, Between, AgreeModulo}
use Rattle.ps2_packet.specs.Packet.{wheel3, wheel4, signed_wheel4}
use Rattle.ps2_packet.specs.declared.MousePacket3.{MousePacket3}
use Rattle.ps2_packet.specs.declared.MousePacket4.{MousePacket4}
use Rattle.ps2_packet.proofs.Signed.{bit_top, pos_less, mag_less, mag_twos, mag_range, less_modulo}

-- a number whose topmost bit of eight is said, read as a signed byte
by_top : (sign : Bool) (v : ℕ) → v < 256 → ltb v 128 ≡ not sign → to_z w8 v ≡ less_if sign 256 v
by_top true v h e = rw e (sym (pos_less 256 v h))
by_top false v h e = rw e

-- a byte read as a signed byte is its eight bits in two's complement
pub signed_read : (b : ℕ) → b < 256 → to_z w8 b ≡ twos_complement 8 b
signed_read b h = ap (to_z w8) (sym (mod-eq_of_lt h)) ∙ by_top (bit 7 b) (b % 256) (omega arith) (bit_top 7 b)

-- four bits, less 16 or not, fit an i8
pub four_less_fits : (sign : Bool) (b : ℕ) → SFits w8 (less_if sign 16 (b % 16))
four_less_fits sign b = record { sfits = lt_trans (mag_less sign 16 (b % 16) (omega arith)) (lit< tt) }

pub wheel3_range : (p : MousePacket3) → Between (negsuc 127) (pos 127) (wheel3 p)
wheel3_range p = mag_range 127 (wheel3 p) (mag_twos 7 p.byte4)

pub wheel4_range : (p : MousePacket4) → Between (pos 0) (pos 15) (wheel4 p)
wheel4_range p =
    (record { le = le→leb 0 (p.byte4 % 16) (omega arith) }, record { le = le→leb (p.byte4 % 16) 15 (omega arith) })

pub signed_wheel4_range : (p : MousePacket4) → Between (negsuc 7) (pos 7) (signed_wheel4 p)
signed_wheel4_range p = mag_range 7 (signed_wheel4 p) (mag_twos 3 p.byte4)

pub signed_wheel4_modulo : (p : MousePacket4) → AgreeModulo 16 (signed_wheel4 p) (wheel4 p)
signed_wheel4_modulo p = less_modulo (bit 3 p.byte4) 16 (p.byte4 % 16)
