-- A session's packets, counted, and their movements,
-- summed: "mouse bytes in packets of one identity".
use Rattle.std.specs.Prelude.{◌≡◌, List, [], ◌∷◌, ℕ, ℤ, pos, ◌+ℤ◌, length}
use Rattle.ps2_bytes.specs.declared.response.MouseId.{MouseId}
use Rattle.ps2_packet.specs.declared.MousePacketGeneric.{MousePacketGeneric}
use Rattle.ps2_packet.specs.declared.MousePacket.{MousePacket}
use Rattle.ps2_packet.specs.Packet.{common, x_movement, y_movement}
use Rattle.ps2_packet.specs.Packets.{packets_of}

-- "Sums of x and y": the sum of a movement over the packets.
unfoldable pub sum_of : (MousePacketGeneric → ℤ) → List MousePacket → ℤ
sum_of movement [] = pos 0
sum_of movement (p ∷ more) = movement (common p) +ℤ sum_of movement more

-- The packets of some bytes, counted, and their two sums.
pub record Movements (id : MouseId) (bytes : List ℕ) (packets : ℕ) (x y : ℤ) : Type 0 where
  pub counted : packets ≡ length (packets_of id bytes)
  pub x_summed : x ≡ sum_of x_movement (packets_of id bytes)
  pub y_summed : y ≡ sum_of y_movement (packets_of id bytes)
