-- The Rust's mouse packets, and ours that have the same bytes.
use Rattle.std.specs.Prelude.{ℕ}
use Rattle.ps2_bytes.specs.declared.response.MouseId.{MouseId}
use Rattle.ps2_bytes.specs.declared.response.MouseId.TheVariants as Identity
use Rattle.ps2_packet.specs.declared.MousePacket.{MousePacket as OurPacket}
use Rattle.ps2_packet.specs.declared.MousePacket.TheVariants as Ours
use Rattle.ps2_packet.specs.declared.MousePacket3.{MousePacket3 as OurPacket3}
use Rattle.ps2_packet.specs.declared.MousePacket4.{MousePacket4 as OurPacket4}
use Rattle.ps2_packet.specs.declared.MousePacketGeneric.{MousePacketGeneric as OurPacketGeneric}
use Rattle.ps2_packet.specs.Packet.{generic, packet3, packet4}
use Rattle.theseus_packet.specs.declared.MousePacket.{MousePacket}
use Rattle.theseus_packet.specs.declared.MousePacket.TheVariants.{Zero, Three, Four}
use Rattle.theseus_packet.specs.declared.MousePacket3.{MousePacket3}
use Rattle.theseus_packet.specs.declared.MousePacket4.{MousePacket4}
use Rattle.theseus_packet.specs.declared.MousePacketGeneric.{MousePacketGeneric}

abbrev pub our_generic : MousePacketGeneric → OurPacketGeneric
our_generic p = generic p.byte1 p.byte2 p.byte3

abbrev pub our_packet3 : MousePacket3 → OurPacket3
our_packet3 p = record { generic_part = our_generic p.generic_part; byte4 = p.byte4 }

abbrev pub our_packet4 : MousePacket4 → OurPacket4
our_packet4 p = record { generic_part = our_generic p.generic_part; byte4 = p.byte4 }

abbrev pub our_packet : MousePacket → OurPacket
our_packet (Zero p) = Ours.Zero (our_generic p)
our_packet (Three p) = Ours.Three (our_packet3 p)
our_packet (Four p) = Ours.Four (our_packet4 p)

-- Our packet of these bytes, at each identity.
abbrev pub packet_of : MouseId → ℕ → ℕ → ℕ → ℕ → OurPacket
packet_of Identity.Zero b1 b2 b3 b4 = Ours.Zero (generic b1 b2 b3)
packet_of Identity.Three b1 b2 b3 b4 = Ours.Three (packet3 b1 b2 b3 b4)
packet_of Identity.Four b1 b2 b3 b4 = Ours.Four (packet4 b1 b2 b3 b4)
