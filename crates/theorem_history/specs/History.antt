-- The history rule, with what it says of waiting bytes, of two keyboards and of the tournament
-- profile, as one statement about a list of calls. On the right of each equation stands what the
-- list alone says; on the left, the record after it and the answers given.
use Rattle.std.specs.Prelude.{true, not, ◌++◌, ◌≡◌, ℕ, ◌≤◌, length}
use Rattle.exchange.specs.Exchange.{Exchange}
use Rattle.exchange.specs.Answer.{Answer}
use Rattle.keyboard_sides.specs.declared.Side.{Side}
use Rattle.keyboard_sides.specs.Named.{of_side}
use Rattle.theorem_history.specs.Past.{Past, each}
use Rattle.keyboard_scancodes.specs.Waiting.{waiting_bytes}
use Rattle.keyboard_record.specs.declared.Table.{Table}
use Rattle.keyboard_record.specs.Limits.{share}
use Rattle.keyboard_record.specs.Queue.{are_two, waiting}
use Rattle.theorem_history.specs.Said.{prefix_said, flags_said, events_given}
use Rattle.theorem_history.specs.Counted.{Call, own, counted_of, waits_of, counts}
use Rattle.theorem_history.specs.Waited.{dropped}
use Rattle.theorem_history.specs.Row.{events, less_met, row, given, meets_with, removed}
use Rattle.keyboard_record.specs.Record.{keyboard_at, well_formed}
use Rattle.keyboard.specs.Rules.{rules_at}
use Rattle.keyboard.specs.Answers.{ends2_3_21, ends_with}
use Rattle.theorem_history.specs.Run.{after, answers, takings, events_taken, reported}

module _ {A : Type 0} (table : Table) (lamps : Side → ℕ → Exchange (Answer A)) where
  pub record History (calls : Past Call) : Type 0 where
    -- "Unless its script, log and record make it end in 2, 3 or 21": a handler call counts a
    -- scancode exactly where it does not end so.
    pub left_out : each ends2_3_21 (answers table lamps calls) ≡ each not (counts table lamps calls)
    -- No list of calls leads to a record that is refused with 21, but for the side of a call.
    pub well : well_formed (after table lamps calls).state ≡ true
    -- "The profile is chosen by the call that makes a fresh handler and changed by no other", and
    -- so is one keyboard or two.
    pub laid : (after table lamps calls).state.table ≡ table
    -- "The history rule holds for each side over its own bytes, whatever the other sends." "The
    -- flags after the list are what the bytes say."
    pub flags : (side : Side) → (keyboard_at side (after table lamps calls).state).modifiers.bits
        ≡ flags_said table.profile (counted_of table lamps side calls)
    -- The prefix is on exactly when the last counted byte was E0 or E1.
    pub prefix : (side : Side) → (keyboard_at side (after table lamps calls).state).prefix
        ≡ prefix_said (counted_of table lamps side calls)
    -- "Every byte but 00 whose low seven bits are at most 5D gives an event with the flags just
    -- after it", "in byte order, once each".
    pub byte_order : (side : Side) → of_side side (events (given table lamps calls))
        ≡ events_given table.profile (counted_of table lamps side calls)
    -- "Each taking answers the event removed, or "none" from an empty row."
    pub taking_answers : takings table lamps calls ≡ removed table lamps calls
    -- "After the list the record's queue, oldest first, equals the row."
    pub queue : waiting (after table lamps calls) ≡ row table lamps calls
    -- "The events taken, then those still waiting, are exactly the events given", in the order of
    -- the calls, "less those that met" 33, 31 or 20.
    pub taken_then_waiting : events_taken (takings table lamps calls)
        ++ waiting (after table lamps calls) ≡ less_met (given table lamps calls)
    -- "20 is answered exactly where an event met 128 waiting", 31 exactly where it found 96 of its
    -- side, and 33 exactly where its key is outside the profile.
    pub answers_20 : each (ends_with 20) (answers table lamps calls)
        ≡ meets_with table lamps 20 calls
    pub answers_31 : each (ends_with 31) (answers table lamps calls)
        ≡ meets_with table lamps 31 calls
    pub answers_33 : each (ends_with 33) (answers table lamps calls)
        ≡ meets_with table lamps 33 calls
    -- "With two keyboards a side never has more than 96 events waiting."
    pub shares : are_two table.keyboards ≡ true → (side : Side)
        → length (of_side side (waiting (after table lamps calls))) ≤ share
    -- "The handler record keeps the earliest of them waiting, up to 16 with the old ones": the
    -- bytes of a side that wait in the record, the oldest first, are those that the list says.
    pub bytes_waiting : (side : Side)
        → waiting_bytes (keyboard_at side (after table lamps calls).state).waiting
        ≡ waits_of table lamps side calls
    -- "And reports how many more it dropped in this call": as
    -- many as found no room, and 0 where no scancode is counted.
    pub drops : (side : Side) → reported table lamps side calls
        ≡ each length (dropped (rules_at table lamps side) (own table.keyboards side calls))
