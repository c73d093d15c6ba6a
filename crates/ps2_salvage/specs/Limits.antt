-- What a recording needs of its outputs.
use Rattle.std.specs.Prelude.{◌≡◌, List, ◌⊎◌, ℕ, ◌≤◌, ◌<◌, length, drop, Ok, Err}
use Rattle.ps2_bytes.specs.declared.response.MouseId.{MouseId}
use Rattle.ps2_salvage.specs.declared.SalvageRefusal.TheVariants.{NoRoom}
use Rattle.ps2_salvage.specs.Salvage.{Outcome, salvaged}
use Rattle.ps2_salvage.specs.Rules.{Short}

-- A pass with as much room, and as many places, as the recording has bytes.
abbrev pub unhindered : MouseId → List ℕ → Outcome
unhindered id bytes = salvaged id (length bytes) (length bytes) bytes

-- 30 exactly where room or places are fewer than that pass fills.
pub record Limits (id : MouseId) (room places : ℕ) (bytes : List ℕ) : Type 0 where
  -- nothing stops it but the end, and it uses all but a tail too short for a packet
  pub done : (unhindered id bytes).answer ≡ Ok tt
  pub tail : Short id (drop (unhindered id bytes).used bytes)
  -- what it fills is enough
  pub enough : length (unhindered id bytes).packets ≤ room
      → length (unhindered id bytes).positions ≤ places → salvaged id room places bytes
      ≡ unhindered id bytes
  -- and no less is
  pub too_little : (room < length (unhindered id bytes).packets)
      ⊎ (places < length (unhindered id bytes).positions) → (salvaged id room places bytes).answer
      ≡ Err NoRoom
