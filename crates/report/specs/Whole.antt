-- What packets have to do with the bytes that they were read from.
use Rattle.std.specs.Prelude.{◌≡◌, List, [], ◌∷◌, ◌++◌, ℕ, ◌<◌, length}
use Rattle.ps2_bytes.specs.declared.response.MouseId.{MouseId}
use Rattle.ps2_packet.specs.declared.MousePacket.{MousePacket}
use Rattle.ps2_packet.specs.Packet.{packet_id, packet_length}
use Rattle.ps2_packet.specs.Packets.{bytes_of}

-- Packets of one identity.
pub data Of (id : MouseId) : List MousePacket → Type 0 where
  none : Of id []
  and : {p : MousePacket} {more : List MousePacket} → packet_id p ≡ id → Of id more
      → Of id (p ∷ more)

-- Their bytes, and a tail that is too short for a packet, are all bytes.
pub record Whole (id : MouseId) (bytes : List ℕ) (packets : List MousePacket) : Type 0 where
  pub kind : Of id packets
  pub tail : List ℕ
  pub short : length tail < packet_length id
  pub all : bytes_of packets ++ tail ≡ bytes
