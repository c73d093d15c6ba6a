-- Two runs from fresh handlers, in which a side's keys were the same.
-- The runs are two lists of calls. Each has a table of its own, with one keyboard
-- or two, and lamp exchanges of its own; nothing is asked of the scripts, the
-- logs, the takings, the bytes that lamp exchanges read, or the calls of the
-- other side. Of the tables it is asked that their profile is the same.
use Rattle.std.specs.Prelude.{Bool, ◌≡◌, ℕ}
use Rattle.exchange.specs.Exchange.{Exchange}
use Rattle.exchange.specs.Answer.{Answer}
use Rattle.keyboard_sides.specs.declared.Side.{Side}
use Rattle.keyboard_record.specs.declared.Table.{Table}
use Rattle.keyboard_record.specs.Record.{keyboard_at}
use Rattle.theorem_history.specs.Past.{Past}
use Rattle.theorem_history.specs.Counted.{Call, counted_of}
use Rattle.theorem_history.specs.Run.{after}

-- A run: a table, its lamp exchanges, and a list of calls,
-- the first on a fresh handler for that table.
pub record Run (A : Type 0) : Type 0 where
  pub table : Table
  pub lamps : Side → ℕ → Exchange (Answer A)
  pub calls : Past Call

-- The scancodes that the run's calls counted for a side, in order.
abbrev pub counted_in : {A : Type 0} → Side → Run A → Past ℕ
counted_in side r = counted_of r.table r.lamps side r.calls

-- "Two runs from fresh handlers under the same profile":
-- one table may have one keyboard, and the other two.
abbrev pub SameProfile : {A B : Type 0} → Run A → Run B → Type 0
SameProfile one other = one.table.profile ≡ other.table.profile

-- "In which a side's counted scancodes agree": they are the same list.
abbrev pub Agree : {A B : Type 0} → Side → Run A → Run B → Type 0
Agree side one other = counted_in side one ≡ counted_in side other

-- The flags and the prefix of a side in the record that a run leaves.
abbrev pub flags_in : {A : Type 0} → Side → Run A → ℕ
flags_in side r = (keyboard_at side (after r.table r.lamps r.calls).state).modifiers.bits

abbrev pub prefix_in : {A : Type 0} → Side → Run A → Bool
prefix_in side r = (keyboard_at side (after r.table r.lamps r.calls).state).prefix

-- "Have that side's flags and prefix equal, events dropped or not."
pub record SameHands {A B : Type 0} (side : Side) (one : Run A) (other : Run B) : Type 0 where
  pub flags : flags_in side one ≡ flags_in side other
  pub prefix : prefix_in side one ≡ prefix_in side other
