-- Two runs of steps through the dispatcher, in which a side's keys were the same: the same
-- statement, of what the two dispatchers hold.
use Rattle.std.specs.Prelude.{◌≡◌, ℕ}
use Rattle.exchange.specs.Exchange.{Exchange}
use Rattle.exchange.specs.Answer.{Answer}
use Rattle.ps2_mouse.specs.declared.PS2Mouse.{PS2Mouse}
use Rattle.keyboard_sides.specs.declared.Side.{Side}
use Rattle.keyboard_record.specs.declared.HandlerState.{HandlerState}
use Rattle.keyboard_record.specs.declared.Table.{Table}
use Rattle.keyboard_record.specs.Record.{keyboard_at}
use Rattle.theorem_history.specs.Past.{Past}
use Rattle.dispatcher.specs.Runs.{Move}
use Rattle.theorem_dispatcher.specs.Through.{dispatched, calls_of}
use Rattle.theorem_same_hands.specs.SameHands.{Run}

-- A dispatcher's run: a table, its lamp exchanges and its mouse, and a list of steps and takings
-- from a fresh state, each step with its scripts and its log.
pub record Turns (A : Type 0) : Type 0 where
  pub table : Table
  pub lamps : Side → ℕ → Exchange (Answer A)
  pub mouse : PS2Mouse
  pub moves : Past Move

-- The handler calls that its steps made, and the takings, as the list of steps says them.
abbrev pub calls_in : {A : Type 0} → Turns A → Run A
calls_in t =
    record { table = t.table; lamps = t.lamps; calls = calls_of t.table t.lamps t.mouse t.moves }

-- The handler's state in the dispatcher that a run leaves.
abbrev pub held_in : {A : Type 0} → Turns A → HandlerState
held_in t = (dispatched t.table t.lamps t.mouse t.moves).handler.state

-- "Have that side's flags and prefix equal, events dropped or not."
pub record SameThrough {A B : Type 0} (side : Side) (one : Turns A) (other : Turns B) : Type 0 where
  pub flags : (keyboard_at side (held_in one)).modifiers.bits
      ≡ (keyboard_at side (held_in other)).modifiers.bits
  pub prefix : (keyboard_at side (held_in one)).prefix ≡ (keyboard_at side (held_in other)).prefix
