-- Two passes, one after the other.
use Rattle.std.specs.Prelude.{List, ◌++◌, map, ℕ, ◌+◌, ◌-◌, length, drop}
use Rattle.ps2_bytes.specs.declared.response.MouseId.{MouseId}
use Rattle.ps2_salvage.specs.Salvage.{Outcome, salvaged}

-- A second pass, from where the first stopped: over what it left of its bytes, with more behind
-- them, into what it left of the outputs.
abbrev pub gone_on : MouseId → Outcome → (room places : ℕ) → (bytes more : List ℕ) → Outcome
gone_on id first room places bytes more = salvaged id (room - length first.packets)
    (places - length first.positions) (drop first.used bytes ++ more)

-- The two as one: the second's positions are moved on by what the first used.
abbrev pub joined : Outcome → Outcome → Outcome
joined first second =
    record {
      answer = second.answer;
      used = first.used + second.used;
      packets = first.packets ++ second.packets;
      positions = first.positions ++ map (λ p. first.used + p) second.positions;
    }
