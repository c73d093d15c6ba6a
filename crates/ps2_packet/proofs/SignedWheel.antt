-- To read the four bits of the wheel as signed changes the wheel of identity 4 alone.
use mathlib.Core.Path.{◌≡◌, refl}
use Prim.Native.Nat.{ℕ}
use native.Mathlib.Omega.{arith}
use lib.IntN.{pos, neg_ℤ}
use Rattle.bits.specs.Bits.{bit, odd}
use Rattle.ps2_bytes.specs.declared.response.MouseId.TheVariants as Identity
use Rattle.ps2_packet.specs.Packet.{packet4, wheel, signed_wheel, signed_packet}
use Rattle.ps2_packet.specs.SignedWheel.{DiffersInWheel}
use Rattle.ps2_packet.specs.declared.MousePacket.{MousePacket}
use Rattle.ps2_packet.specs.declared.MousePacket.TheVariants.{Zero, Three, Four}
use Rattle.ps2_packet.proofs.Wheel.{signed_wheel4_range, signed_wheel4_modulo}

-- the smallest byte 4 that shows it, and both ends of the range; its bits 4 to 7 and the other bytes may be any
pub signed_examples : (b1 b2 b3 : ℕ)
    → (signed_wheel (Four (packet4 b1 b2 b3 0x0F)) ≡ neg_ℤ (pos 1)) × (wheel (Four (packet4 b1 b2 b3 0x0F)) ≡ pos 15)
    × (signed_wheel (Four (packet4 b1 b2 b3 0xC8)) ≡ neg_ℤ (pos 8)) × (wheel (Four (packet4 b1 b2 b3 0xC8)) ≡ pos 8)
    × (signed_wheel (Four (packet4 b1 b2 b3 0xF7)) ≡ pos 7) × (wheel (Four (packet4 b1 b2 b3 0xF7)) ≡ pos 7)
unfolding bit odd
signed_examples b1 b2 b3 = (refl, refl, refl, refl, refl, refl)

zero_is_not_four : {A : Type 0} → Identity.Zero ≡ Identity.Four → A
zero_is_not_four q = let z : ◌≡◌ {A = ℕ} 0 1 = cc in absurd (omega arith)

three_is_not_four : {A : Type 0} → Identity.Three ≡ Identity.Four → A
three_is_not_four q = let z : ◌≡◌ {A = ℕ} 0 1 = cc in absurd (omega arith)

pub differs_in_wheel : (p : MousePacket) → DiffersInWheel p (signed_packet p)
differs_in_wheel (Zero p) = record { same_packet = refl; other_wheel = λ _. refl; modulo_16 = zero_is_not_four; signed_range = zero_is_not_four }
differs_in_wheel (Three p) = record { same_packet = refl; other_wheel = λ _. refl; modulo_16 = three_is_not_four; signed_range = three_is_not_four }
differs_in_wheel (Four p) =
    record {
      same_packet = refl;
      other_wheel = λ other. absurd (other refl);
      modulo_16 = λ _. signed_wheel4_modulo p;
      signed_range = λ _. signed_wheel4_range p;
    }
