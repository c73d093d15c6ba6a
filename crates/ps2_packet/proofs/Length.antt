-- The length of a packet.
use mathlib.Core.Path.{◌≡◌, refl}
use lib.ListN.{length}
use Rattle.ps2_packet.specs.Packet.{packet_id, packet_bytes, packet_length}
use Rattle.ps2_packet.specs.declared.MousePacket.{MousePacket}
use Rattle.ps2_packet.specs.declared.MousePacket.TheVariants.{Zero, Three, Four}

-- a packet of an identity has the bytes that the identity says
pub packet_length_lem : (p : MousePacket) → length (packet_bytes p) ≡ packet_length (packet_id p)
packet_length_lem (Zero p) = refl
packet_length_lem (Three p) = refl
packet_length_lem (Four p) = refl
