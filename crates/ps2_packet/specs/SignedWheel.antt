-- What it changes to read the four bits of a five-button mouse's wheel as signed.
use Rattle.std.specs.Prelude.{◌≡◌, pos, neg_ℤ}
use Rattle.ps2_bytes.specs.declared.response.MouseId.TheVariants.{Four}
use Rattle.ps2_packet.specs.Signed.{Between, AgreeModulo}
use Rattle.ps2_packet.specs.Packet.{packet_id, wheel, signed_wheel}
use Rattle.ps2_packet.specs.declared.MousePacket.{MousePacket}
use Rattle.ps2_packet.specs.declared.SignedPacket.{SignedPacket}

-- A packet, and the one that "differs from the Rust's in this alone".
pub record DiffersInWheel (p : MousePacket) (q : SignedPacket) : Type 0 where
  -- every accessor but the wheel is the packet's own, and so the same
  pub same_packet : q.packet ≡ p
  -- at identities 0 and 3 the wheel is the same too
  pub other_wheel : (packet_id p ≡ Four → ⊥) → signed_wheel q.packet ≡ wheel p
  -- at identity 4 it is the one number from -8 to 7 that the Rust's, 0 to 15, is modulo 16
  pub modulo_16 : packet_id p ≡ Four → AgreeModulo 16 (signed_wheel q.packet) (wheel p)
  pub signed_range : packet_id p ≡ Four → Between (neg_ℤ (pos 8)) (pos 7) (signed_wheel q.packet)
