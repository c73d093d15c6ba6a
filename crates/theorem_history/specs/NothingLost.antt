-- Nothing is lost, of either side: each byte that the lamp exchange of a counted call threw away
-- was taken by a later call, or still waits, or is among those that its call reported.
use Rattle.std.specs.Prelude.{List, [], ◌++◌, ◌≡◌, ℕ, length}
use Rattle.exchange.specs.Exchange.{Exchange}
use Rattle.exchange.specs.Answer.{Answer}
use Rattle.keyboard_scancodes.specs.Waiting.{waiting_bytes}
use Rattle.theorem_history.specs.Past.{Past, nothing, ◌▸◌}
use Rattle.keyboard_sides.specs.declared.Side.{Side}
use Rattle.keyboard_record.specs.declared.Table.{Table}
use Rattle.keyboard.specs.Rules.{rules_at}
use Rattle.keyboard_record.specs.Record.{keyboard_at}
use Rattle.theorem_history.specs.Counted.{Call, own}
use Rattle.theorem_history.specs.Waited.{thrown_away, joined, taken_waiting}
use Rattle.theorem_history.specs.Run.{after, reported}

-- All of these lists, one behind the other.
unfoldable pub in_order : Past (List ℕ) → List ℕ
in_order nothing = []
in_order (past ▸ l) = in_order past ++ l

-- Call by call, what was thrown away is what found room
-- and, after it, as many bytes as the call reported.
pub data Reported : Past (List ℕ) → Past (List ℕ) → Past ℕ → Type 0 where
  no_call : Reported nothing nothing nothing
  one_call : {thrown joined : Past (List ℕ)} {reported : Past ℕ} {room : List ℕ}
      → Reported thrown joined reported → (others : List ℕ)
      → Reported (thrown ▸ room ++ others) (joined ▸ room) (reported ▸ length others)

module _ {A : Type 0} (table : Table) (lamps : Side → ℕ → Exchange (Answer A)) where
  pub record NothingLost (side : Side) (calls : Past Call) : Type 0 where
    -- Of the bytes that each call's exchange threw away the earliest found room; the others are as
    -- many as the call reported.
    pub others_reported : Reported
        (thrown_away (rules_at table lamps side) (own table.keyboards side calls))
        (joined (rules_at table lamps side) (own table.keyboards side calls))
        (reported table lamps side calls)
    -- The bytes that found room are, in order, those that
    -- later calls took, then those that wait in the record.
    pub taken_then_waiting : taken_waiting (rules_at table lamps side)
        (own table.keyboards side calls)
        ++ waiting_bytes (keyboard_at side (after table lamps calls).state).waiting
        ≡ in_order (joined (rules_at table lamps side) (own table.keyboards side calls))
