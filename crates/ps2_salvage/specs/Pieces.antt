-- What a recording of a mouse's bytes is made of.
use Rattle.std.specs.Prelude.{Bool, cond, List, [], ◌∷◌, ◌++◌, ℕ, zero, suc, ◌+◌, ◌-◌, leb, length, take}
use Rattle.bits.specs.Bits.{bit}
use Rattle.ps2_bytes.specs.declared.response.MouseId.{MouseId}
use Rattle.ps2_packet.specs.Packet.{always_one, packet_length}

-- A piece, which is a word of ours: a packet, or a byte between packets, to be dropped.
pub data Piece : Type 0 where
  packet : List ℕ → Piece
  dropped : ℕ → Piece

-- Whether a packet can start with a byte: its bit 3 is set.
abbrev pub starts : ℕ → Bool
starts b = bit always_one b

-- "At a packet's start, a byte with bit 3 clear is dropped [..]; otherwise a whole packet is
-- taken." A tail too short for a packet is no piece.
-- The first bytes, so many of them, belong to a packet that was taken.
unfoldable pub pieces_after : MouseId → ℕ → List ℕ → List Piece
pieces_after id others [] = []
pieces_after id (suc others) (b ∷ bytes) = pieces_after id others bytes
pieces_after id zero (b ∷ bytes) =
    cond (starts b)
    (cond (leb (packet_length id) (length (b ∷ bytes)))
    (packet (take (packet_length id) (b ∷ bytes)) ∷ pieces_after id (packet_length id - 1)
    bytes) [])
    (dropped b ∷ pieces_after id 0 bytes)

abbrev pub pieces : MouseId → List ℕ → List Piece
pieces id bytes = pieces_after id 0 bytes

-- ---- pieces as bytes

-- All bytes of the pieces, each in its place.
unfoldable pub all_bytes : List Piece → List ℕ
all_bytes [] = []
all_bytes (packet bytes ∷ more) = bytes ++ all_bytes more
all_bytes (dropped b ∷ more) = b ∷ all_bytes more

-- The bytes of the packets.
unfoldable pub packet_bytes : List Piece → List ℕ
packet_bytes [] = []
packet_bytes (packet bytes ∷ more) = bytes ++ packet_bytes more
packet_bytes (dropped b ∷ more) = packet_bytes more

-- The positions of the dropped bytes, where the first piece stands at this one.
unfoldable pub positions_from : ℕ → List Piece → List ℕ
positions_from at [] = []
positions_from at (packet bytes ∷ more) = positions_from (at + length bytes) more
positions_from at (dropped b ∷ more) = at ∷ positions_from (at + 1) more
