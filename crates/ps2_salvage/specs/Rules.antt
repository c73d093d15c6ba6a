-- The rules of salvage as a relation, each by itself: what
-- an outcome must be, however it is come by.
use Rattle.std.specs.Prelude.{true, false, ◌≡◌, List, [], ◌∷◌, ◌++◌, ℕ, ◌-◌, ◌≤◌, ◌<◌, length, Ok, Err}
use Rattle.ps2_bytes.specs.declared.response.MouseId.{MouseId}
use Rattle.ps2_packet.specs.Packet.{packet_length}
use Rattle.ps2_salvage.specs.declared.SalvageRefusal.TheVariants.{NoRoom}
use Rattle.ps2_salvage.specs.Pieces.{Piece, packet, dropped, starts, all_bytes, packet_bytes, positions_from}
use Rattle.ps2_salvage.specs.Salvage.{Ending, Outcome}

-- Pieces of the right kind: a packet has its identity's length
-- and starts with bit 3 set, a dropped byte has it clear.
pub data InStep (id : MouseId) : List Piece → Type 0 where
  nothing : InStep id []
  taken : {b : ℕ} {bytes : List ℕ} {more : List Piece} → starts b ≡ true
      → length (b ∷ bytes) ≡ packet_length id → InStep id more
      → InStep id (packet (b ∷ bytes) ∷ more)
  left_out : {b : ℕ} {more : List Piece} → starts b ≡ false → InStep id more
      → InStep id (dropped b ∷ more)

-- "A tail too short for a packet": nothing, or a byte that
-- a packet could start with and too few behind it.
pub data Short (id : MouseId) : List ℕ → Type 0 where
  none : Short id []
  tail : {b : ℕ} {bytes : List ℕ} → starts b ≡ true → length (b ∷ bytes) < packet_length id
      → Short id (b ∷ bytes)

-- Why a pass ends before a rest, with so much room and so many places left.
pub data Ended (id : MouseId) (room places : ℕ) : Ending → List ℕ → Type 0 where
  short : {rest : List ℕ} → Short id rest → Ended id room places (Ok tt) rest
  no_room : {b : ℕ} {bytes : List ℕ} → starts b ≡ true → packet_length id ≤ length (b ∷ bytes)
      → room < packet_length id → Ended id room places (Err NoRoom) (b ∷ bytes)
  no_place : {b : ℕ} {bytes : List ℕ} → starts b ≡ false → places ≡ 0
      → Ended id room places (Err NoRoom) (b ∷ bytes)

pub record Rules (id : MouseId) (room places : ℕ) (bytes : List ℕ) (o : Outcome) : Type 0 where
  -- what was used, in pieces, and the unused rest
  pub pieces : List Piece
  pub rest : List ℕ
  pub right : InStep id pieces
  pub whole : all_bytes pieces ++ rest ≡ bytes
  -- "tells how many input bytes it used"
  pub used : o.used ≡ length (all_bytes pieces)
  -- "packets as bytes and dropped positions", counted from 0
  pub packets : o.packets ≡ packet_bytes pieces
  pub positions : o.positions ≡ positions_from 0 pieces
  pub packets_fit : length o.packets ≤ room
  pub positions_fit : length o.positions ≤ places
  pub ended : Ended id (room - length o.packets) (places - length o.positions) o.answer rest
