-- The calls of a list made one after another, the first on a fresh record for a table and each
-- other on the record that the last one left.
use Rattle.std.specs.Prelude.{Bool, true, false, ◌&&◌, List, [], ◌∷◌, ◌++◌, ℕ}
use Rattle.std.proofs.Math.Option.{Option, none, some}
use Rattle.exchange.specs.Exchange.{Exchange, End}
use Rattle.exchange.specs.Answer.{Answer, gives, refuses}
use Rattle.ps2_answers.specs.Refusals.{Success}
use Rattle.keycodes_ascii.specs.declared.KeyEvent.{KeyEvent}
use Rattle.keyboard_sides.specs.declared.Side.{Side}
use Rattle.keyboard_sides.specs.Sides.{same_side}
use Rattle.keyboard_sides.specs.Named.{Sided}
use Rattle.keyboard_record.specs.declared.KeyboardHandler.{KeyboardHandler}
use Rattle.keyboard_record.specs.declared.Table.{Table}
use Rattle.theorem_history.specs.Past.{Past, nothing, ◌▸◌}
use Rattle.theorem_history.specs.Counted.{Call, handling, taking}
use Rattle.keyboard_record.specs.Record.{at_table, fresh}
use Rattle.keyboard.specs.Handler.{handled}
use Rattle.keyboard_record.specs.Taking.{taken}

-- The events among what takings answered, in order.
unfoldable pub events_taken : Past (Answer (Option (Sided KeyEvent))) → List (Sided KeyEvent)
events_taken nothing = []
events_taken (past ▸ gives (some e)) = events_taken past ++ (e ∷ [])
events_taken (past ▸ gives none) = events_taken past
events_taken (past ▸ refuses n) = events_taken past

module _ {A : Type 0} (table : Table) (lamps : Side → ℕ → Exchange (Answer A)) where
  -- The record that a call leaves.
  unfoldable pub leaves : KeyboardHandler → Call → KeyboardHandler
  leaves h (handling side script log) = (handled lamps side h script log).handler
  leaves h taking = (taken h).now

  -- The record after the calls.
  unfoldable pub after : Past Call → KeyboardHandler
  after nothing = fresh table
  after (past ▸ call) = leaves (after past) call

  -- The record after calls that are made in order from a record on.
  unfoldable pub run : KeyboardHandler → List Call → KeyboardHandler
  run h [] = h
  run h (call ∷ calls) = run (leaves h call) calls

  -- What the handler calls answered, in order.
  unfoldable pub answers : Past Call → Past (End (Answer Success))
  answers nothing = nothing
  answers (past ▸ handling side script log) =
      answers past ▸ (handled lamps side (after past) script log).end
  answers (past ▸ taking) = answers past

  -- What the takings answered, in order.
  unfoldable pub takings : Past Call → Past (Answer (Option (Sided KeyEvent)))
  takings nothing = nothing
  takings (past ▸ handling side script log) = takings past
  takings (past ▸ taking) = takings past ▸ (taken (after past)).answer

  -- How many bytes each handler call of a side at the table reported as dropped, in order.
  abbrev pub own_number : Bool → Past ℕ → ℕ → Past ℕ
  own_number true past n = past ▸ n
  own_number false past n = past

  unfoldable pub reported : Side → Past Call → Past ℕ
  reported side nothing = nothing
  reported side (past ▸ handling s script log) = own_number
      (same_side side s && at_table table.keyboards s) (reported side past)
      (handled lamps s (after past) script log).dropped
  reported side (past ▸ taking) = reported side past
