-- A pass over a recording: what is put into its two outputs, and how it ends.
use Rattle.std.specs.Prelude.{cond, ◌≡◌, List, [], ◌∷◌, ◌++◌, ℕ, ◌+◌, ◌-◌, leb, ltb, length, drop, Result, Ok, Err}
use Rattle.ps2_bytes.specs.declared.response.MouseId.{MouseId}
use Rattle.ps2_salvage.specs.declared.SalvageRefusal.{SalvageRefusal}
use Rattle.ps2_salvage.specs.declared.SalvageRefusal.TheVariants.{NoRoom}
use Rattle.ps2_salvage.specs.declared.Salvaged.{Salvaged}
use Rattle.ps2_salvage.specs.Pieces.{Piece, packet, dropped, pieces}

-- How a pass ends: at the recording's end or before a tail
-- too short for a packet, or with a refusal.
abbrev pub Ending : Type 0
Ending = Result (Unit {0}) SalvageRefusal

-- The number of a refusal, and of each answer, where 0 is no refusal.
abbrev pub refusal_number : SalvageRefusal → ℕ
refusal_number NoRoom = 30

abbrev pub answer_number : Ending → ℕ
answer_number (Ok u) = 0
answer_number (Err r) = refusal_number r

-- What a pass comes to: its answer, how many bytes of the recording it used, and what it wrote,
-- packets as bytes and dropped positions.
pub record Outcome : Type 0 where
  pub answer : Ending
  pub used : ℕ
  pub packets : List ℕ
  pub positions : List ℕ

-- The pass ends at a position.
abbrev pub ends : Ending → ℕ → Outcome
ends answer at = record { answer = answer; used = at; packets = []; positions = [] }

-- What comes of the rest, after this was written.
abbrev pub after : List ℕ → List ℕ → Outcome → Outcome
after packets positions o =
    record {
      answer = o.answer;
      used = o.used;
      packets = packets ++ o.packets;
      positions = positions ++ o.positions;
    }

-- "It writes packets as bytes and dropped positions as 64-bit numbers", from a position on, as long
-- as each finds room for bytes or a place for a position;
-- "30 if the next packet or position does not fit its output, that packet or byte not being used".
unfoldable pub written : (at room places : ℕ) → List Piece → Outcome
written at room places [] = ends (Ok tt) at
written at room places (packet bytes ∷ more) =
    cond (leb (length bytes) room)
    (after bytes [] (written (at + length bytes) (room - length bytes) places more))
    (ends (Err NoRoom) at)
written at room places (dropped b ∷ more) =
    cond (ltb 0 places) (after [] (at ∷ []) (written (at + 1) room (places - 1) more))
    (ends (Err NoRoom) at)

-- A pass over a whole recording. Positions are "counted from 0".
abbrev pub salvaged : MouseId → (room places : ℕ) → List ℕ → Outcome
salvaged id room places bytes = written 0 room places (pieces id bytes)

-- ---- what the code leaves

-- An output at the end: what was written, then what was there.
abbrev pub over : List ℕ → List ℕ → List ℕ
over now before = now ++ drop (length now) before

-- What was answered, and what became of two outputs, is what a pass comes to.
pub record Leaves (o : Outcome) (packets positions : List ℕ) (r : Salvaged)
    (packets' positions' : List ℕ) : Type 0 where
  pub answer : r.answer ≡ o.answer
  pub used : r.used ≡ o.used
  pub packet_bytes : r.packet_bytes ≡ length o.packets
  pub dropped : r.dropped ≡ length o.positions
  pub packets_left : packets' ≡ over o.packets packets
  pub positions_left : positions' ≡ over o.positions positions
