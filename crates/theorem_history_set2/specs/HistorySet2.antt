-- The history rule read over a set 2 stream, for one side whatever the other sends, and for both.
-- On the right of each equation stands what the streams and the list of calls say; on the left, the
-- record after the calls and the answers given, as in `History`.
use Rattle.std.specs.Prelude.{cond, List, ◌++◌, ◌≡◌, ℕ}
use Rattle.exchange.specs.Exchange.{Exchange}
use Rattle.exchange.specs.Answer.{Answer}
use Rattle.keycodes_ascii.specs.declared.KeyEvent.{KeyEvent}
use Rattle.scancode_set2.specs.Codes.{Code, codes}
use Rattle.keyboard_sides.specs.declared.Side.{Side}
use Rattle.keyboard_sides.specs.Sides.{same_side}
use Rattle.keyboard_sides.specs.Named.{of_side}
use Rattle.keyboard_record.specs.declared.Table.{Table}
use Rattle.keyboard_record.specs.Queue.{waiting}
use Rattle.keyboard_record.specs.Record.{keyboard_at}
use Rattle.keyboard.specs.Answers.{ends_with}
use Rattle.theorem_history.specs.Past.{Past, nothing, each, onto}
use Rattle.theorem_history.specs.Counted.{Call, counted_of}
use Rattle.theorem_history.specs.Row.{events, less_met}
use Rattle.theorem_history.specs.Run.{after, answers, takings, events_taken}
use Rattle.theorem_history_set2.specs.SaidSet2.{prefix_set2, flags_set2, events_set2}
use Rattle.theorem_history_set2.specs.Turns.{each_set2, each_said, turns, row_of, given_of, meets_of, removed_of}

-- The codes of a stream, in the order in which they came.
abbrev pub codes_of : List ℕ → Past Code
codes_of stream = onto nothing (codes stream)

module _ {A : Type 0} (table : Table) (lamps : Side → ℕ → Exchange (Answer A)) where
  -- The row, "one for both sides", and what is taken from
  -- it, where the counted scancodes of each side give this.
  pub record RowSaid (calls : Past Call) (said : Side → Past (List KeyEvent)) : Type 0 where
    -- "Each taking answers the event removed, or "none" from an empty row."
    pub taking_answers : takings table lamps calls ≡ removed_of table (turns table lamps calls said)
    -- "After the list the record's queue, oldest first, equals the row."
    pub queue : waiting (after table lamps calls) ≡ row_of table (turns table lamps calls said)
    -- "The events taken, then those still waiting, are exactly
    -- the events given, less those that met" 33, 31 or 20.
    pub taken_then_waiting : events_taken (takings table lamps calls)
        ++ waiting (after table lamps calls)
        ≡ less_met (given_of table (turns table lamps calls said))
    -- "20 is answered exactly where an event met 128 waiting", 31 exactly where it found 96 of its
    -- side, and 33 exactly where its key is outside the profile.
    pub answers_20 : each (ends_with 20) (answers table lamps calls)
        ≡ meets_of table 20 (turns table lamps calls said)
    pub answers_31 : each (ends_with 31) (answers table lamps calls)
        ≡ meets_of table 31 (turns table lamps calls said)
    pub answers_33 : each (ends_with 33) (answers table lamps calls)
        ≡ meets_of table 33 (turns table lamps calls said)

  -- What the scancodes of each side give where those of one
  -- are read over a stream, "whatever the other sends".
  abbrev pub one_set2 : Side → List ℕ → Past Call → Side → Past (List KeyEvent)
  one_set2 side stream calls t = cond (same_side side t) (each_set2 table.profile (codes_of stream))
      (each_said table.profile (counted_of table lamps t calls))

  -- The rule for a side.
  pub record HistorySet2 (side : Side) (calls : Past Call) (stream : List ℕ) : Type 0 where
    -- "The flags after the list are what the bytes say", read over the codes.
    pub flags : (keyboard_at side (after table lamps calls).state).modifiers.bits
        ≡ flags_set2 table.profile (codes_of stream)
    -- The prefix is on exactly when the last code was E0 or E1, or counts as one.
    pub prefix : (keyboard_at side (after table lamps calls).state).prefix
        ≡ prefix_set2 (codes_of stream)
    -- Every code of a key up to 5D gives an event with the flags
    -- just after it, in the order of the codes, once each.
    pub code_order : of_side side
        (events (given_of table (turns table lamps calls (one_set2 side stream calls))))
        ≡ events_set2 table.profile (codes_of stream)
    pub row : RowSaid calls (one_set2 side stream calls)

  -- The rule where each side has a stream: the row comes from these alone.
  pub record BothSet2 (calls : Past Call) (streams : Side → List ℕ) : Type 0 where
    pub each_side : (side : Side) → HistorySet2 side calls (streams side)
    pub row : RowSaid calls (λ side. each_set2 table.profile (codes_of (streams side)))
