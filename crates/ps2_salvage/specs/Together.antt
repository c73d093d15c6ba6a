-- "Packet bytes, dropped bytes and unused rest together are the input, each byte in its place."
use Rattle.std.specs.Prelude.{true, false, ◌≡◌, List, [], ◌∷◌, ◌++◌, map, ℕ, ◌+◌, ◌*◌, ◌-◌, ◌≤◌, ◌<◌, length, get_or, take, drop}
use Rattle.ps2_bytes.specs.declared.response.MouseId.{MouseId}
use Rattle.ps2_packet.specs.Packet.{packet_length}
use Rattle.ps2_salvage.specs.Pieces.{starts}
use Rattle.ps2_salvage.specs.Salvage.{Outcome}

-- A dropped byte and its position.
pub record Dropped : Type 0 where
  pub position : ℕ
  pub byte : ℕ

-- The bytes of a recording at these positions.
abbrev pub dropped_from : List ℕ → List ℕ → List Dropped
dropped_from bytes positions = map (λ p. record { position = p; byte = get_or bytes p 0 }) positions

-- Packets and dropped bytes laid out again from a position on: each dropped byte at its own, the
-- packets' bytes in order at all others.
unfoldable pub laid_out : ℕ → List Dropped → List ℕ → List ℕ
laid_out at [] packets = packets
laid_out at (d ∷ more) packets =
    take (d.position - at) packets
    ++ d.byte ∷ laid_out (d.position + 1) more (drop (d.position - at) packets)

-- What a pass wrote, with the unused rest, is the recording.
pub record Together (id : MouseId) (bytes : List ℕ) (o : Outcome) : Type 0 where
  pub again : laid_out 0 (dropped_from bytes o.positions) o.packets ++ drop o.used bytes ≡ bytes
  -- nothing is lost and nothing made up
  pub counted : length o.packets + length o.positions ≡ o.used
  pub within : o.used ≤ length bytes
  -- positions rise, and lie in what was used
  pub rising : (i j : ℕ) → i < j → j < length o.positions
      → get_or o.positions i 0 < get_or o.positions j 0
  pub below : (i : ℕ) → i < length o.positions → get_or o.positions i 0 < o.used
  -- bit 3 is clear in each dropped byte, and set in the
  -- first byte of each packet; packets are whole
  pub clear : (i : ℕ) → i < length o.positions → starts (get_or bytes (get_or o.positions i 0) 0)
      ≡ false
  pub count : ℕ
  pub packets : length o.packets ≡ count * packet_length id
  pub set : (k : ℕ) → k < count → starts (get_or o.packets (k * packet_length id) 0) ≡ true
