-- The events of one side, by its own bytes alone.
use Rattle.std.specs.Prelude.{◌++◌, ◌≡◌, ℕ, length}
use Rattle.exchange.specs.Exchange.{Exchange}
use Rattle.exchange.specs.Answer.{Answer}
use Rattle.keyboard_sides.specs.declared.Side.{Side}
use Rattle.keyboard_sides.specs.Named.{of_side}
use Rattle.keyboard_record.specs.declared.Table.{Table}
use Rattle.keyboard_record.specs.Queue.{waiting}
use Rattle.theorem_history.specs.Past.{Past}
use Rattle.theorem_history.specs.Said.{events_given}
use Rattle.theorem_history.specs.Counted.{Call, counted_of}
use Rattle.theorem_history.specs.Row.{given, met_by, less_those}
use Rattle.theorem_history.specs.Run.{after, takings, events_taken}

module _ {A : Type 0} (table : Table) (lamps : Side → ℕ → Exchange (Answer A))
    (calls : Past Call) where
  pub record OwnEvents (side : Side) : Type 0 where
    -- "The history rule holds for each side over its own bytes, whatever the
    -- other sends, its events lacking only those that met 31 or 20 or still
    -- wait": the events taken of the side, then those of the side that wait, are
    -- those that its own counted bytes give, less those that met 33, 31 or 20.
    pub taken_then_waiting : of_side side (events_taken (takings table lamps calls))
        ++ of_side side (waiting (after table lamps calls))
        ≡ less_those (met_by side (given table lamps calls))
        (events_given table.profile (counted_of table lamps side calls))
    -- Each of them met one thing.
    pub one_each : length (met_by side (given table lamps calls))
        ≡ length (events_given table.profile (counted_of table lamps side calls))
