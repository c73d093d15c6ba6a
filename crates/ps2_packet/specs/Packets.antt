-- Bytes cut into packets, and packets as bytes.
use Rattle.std.specs.Prelude.{List, [], ◌∷◌, ◌++◌, ℕ}
use Rattle.ps2_bytes.specs.declared.response.MouseId.{MouseId}
use Rattle.ps2_bytes.specs.declared.response.MouseId.TheVariants as Identity
use Rattle.ps2_packet.specs.declared.MousePacket.{MousePacket}
use Rattle.ps2_packet.specs.declared.MousePacket.TheVariants.{Zero, Three, Four}
use Rattle.ps2_packet.specs.Packet.{generic, packet3, packet4, packet_bytes}

-- Each whole group of 3 bytes, or of 4, is a packet; what is left is too short for one.
unfoldable pub by_threes : List ℕ → List MousePacket
by_threes [] = []
by_threes (a ∷ []) = []
by_threes (a ∷ b ∷ []) = []
by_threes (a ∷ b ∷ c ∷ more) = Zero (generic a b c) ∷ by_threes more

unfoldable pub by_fours : (ℕ → ℕ → ℕ → ℕ → MousePacket) → List ℕ → List MousePacket
by_fours packet [] = []
by_fours packet (a ∷ []) = []
by_fours packet (a ∷ b ∷ []) = []
by_fours packet (a ∷ b ∷ c ∷ []) = []
by_fours packet (a ∷ b ∷ c ∷ d ∷ more) = packet a b c d ∷ by_fours packet more

-- The packets that some bytes are: "a packet is 3 bytes at identity 0, 4 at 3 and 4", and "a last
-- packet cut short is not counted".
abbrev pub packets_of : MouseId → List ℕ → List MousePacket
packets_of Identity.Zero bytes = by_threes bytes
packets_of Identity.Three bytes = by_fours (λ a b c d. Three (packet3 a b c d)) bytes
packets_of Identity.Four bytes = by_fours (λ a b c d. Four (packet4 a b c d)) bytes

-- The bytes of some packets.
unfoldable pub bytes_of : List MousePacket → List ℕ
bytes_of [] = []
bytes_of (p ∷ more) = packet_bytes p ++ bytes_of more
