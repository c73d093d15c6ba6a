-- The calls of a list, those of each side, which of them count a scancode, and the bytes that wait
-- after them: from scripts and logs, not from answers and without the record.
use Rattle.std.specs.Prelude.{Bool, true, false, cond, ◌&&◌, List, [], ◌++◌, ℕ, ◌-◌, length, take, drop}
use Rattle.std.proofs.Math.Option.{Option, none, some}
use Rattle.exchange.specs.Exchange.{Exchange}
use Rattle.exchange.specs.Answer.{Answer}
use Rattle.ps2_kept.specs.Kept.{kept_limit}
use Rattle.keyboard_sides.specs.declared.Side.{Side}
use Rattle.keyboard_sides.specs.Sides.{same_side}
use Rattle.keyboard_record.specs.declared.Keyboards.{Keyboards}
use Rattle.keyboard_record.specs.declared.Table.{Table}
use Rattle.keyboard_record.specs.Record.{at_table}
use Rattle.theorem_history.specs.Past.{Past, nothing, ◌▸◌}
use Rattle.keyboard.specs.Rules.{Rules, rules_at}
use Rattle.keyboard.specs.Scancode.{Took, takes, is_some, caught, scancode}
use Rattle.theorem_history.specs.Said.{flags_said}

-- A call: of the handler for a side, with its script and its log, or a taking from the queue.
pub data Call : Type 0 where
  handling : Side → List ℕ → List ℕ → Call
  taking : Call

-- A handler call as its keyboard sees it: the script and the log that it is lent.
pub record Lent : Type 0 where
  pub script : List ℕ
  pub log : List ℕ

abbrev pub lent : List ℕ → List ℕ → Lent
lent script log = record { script = script; log = log }

-- The handler calls of a side, in order, "whatever the other sends". A side that is not at the
-- table has none: its calls end in 21.
abbrev pub own_call : Bool → Past Lent → Lent → Past Lent
own_call true past x = past ▸ x
own_call false past x = past

unfoldable pub own : Keyboards → Side → Past Call → Past Lent
own keyboards side nothing = nothing
own keyboards side (past ▸ handling s script log) =
    own_call (same_side side s && at_table keyboards s) (own keyboards side past) (lent script log)
own keyboards side (past ▸ taking) = own keyboards side past

-- The bytes counted, with one more where a call counts one.
abbrev pub count : Past ℕ → Option ℕ → Past ℕ
count bytes none = bytes
count bytes (some b) = bytes ▸ b

-- ---- the bytes that wait, in one call

-- The bytes that wait behind the byte that a call takes, "the oldest waiting byte before any script
-- byte". A call that counts no scancode takes none.
abbrev pub behind : Option ℕ → List ℕ → List ℕ
behind none waiting = waiting
behind (some b) waiting = drop 1 waiting

-- "Up to 16 with the old ones": how many more find room where these wait.
abbrev pub room : List ℕ → ℕ
room waiting = kept_limit - length waiting

module _ {A : Type 0} (rules : Rules A) where
  -- The scancode that a handler call counts, if it counts one, after a list of calls whose counted
  -- bytes, which say the flags, and whose waiting bytes are these. "Such bytes count as scancodes
  -- in the history rule at the call that takes them." The record is well formed, as every record is
  -- that such a list leaves (the clause `well` of the rule).
  unfoldable pub scancode_after : Past ℕ → List ℕ → List ℕ → List ℕ → Option ℕ
  scancode_after bytes waiting script log = scancode rules true (λ b. flags_said rules.profile (bytes ▸ b)) waiting script log

  -- The bytes that the lamp exchange of the byte that it takes throws away; where the exchange runs
  -- out of script or log, so that the byte is not counted, none.
  abbrev pub thrown_by : (ℕ → ℕ) → Option Took → List ℕ → List ℕ
  thrown_by flags none log = []
  thrown_by flags (some t) log = caught rules flags t log

  unfoldable pub thrown_after : Past ℕ → List ℕ → List ℕ → List ℕ → List ℕ
  thrown_after bytes waiting script log =
      thrown_by (λ b. flags_said rules.profile (bytes ▸ b)) (takes waiting script) log

  -- Those that wait behind its byte; of those thrown away "the earliest", which find room with
  -- them; and the others, which are dropped.
  unfoldable pub behind_after : Past ℕ → List ℕ → List ℕ → List ℕ → List ℕ
  behind_after bytes waiting script log = behind (scancode_after bytes waiting script log) waiting

  unfoldable pub joined_after : Past ℕ → List ℕ → List ℕ → List ℕ → List ℕ
  joined_after bytes waiting script log =
      take (room (behind_after bytes waiting script log)) (thrown_after bytes waiting script log)

  unfoldable pub dropped_after : Past ℕ → List ℕ → List ℕ → List ℕ → List ℕ
  dropped_after bytes waiting script log =
      drop (room (behind_after bytes waiting script log)) (thrown_after bytes waiting script log)

  -- The bytes that wait after it: "new ones wait behind old ones".
  abbrev pub waiting_after : Past ℕ → List ℕ → List ℕ → List ℕ → List ℕ
  waiting_after bytes waiting script log =
      behind_after bytes waiting script log ++ joined_after bytes waiting script log

  -- ---- the calls of one keyboard

  unfoldable mutual
    -- The counted scancodes of its calls, in order.
    pub counted : Past Lent → Past ℕ
    counted nothing = nothing
    counted (past ▸ x) =
        count (counted past) (scancode_after (counted past) (waits past) x.script x.log)

    -- The bytes that wait after them, the oldest first: "a fresh record has none".
    pub waits : Past Lent → List ℕ
    waits nothing = []
    waits (past ▸ x) = waiting_after (counted past) (waits past) x.script x.log

-- ---- a list of calls at a table

module _ {A : Type 0} (table : Table) (lamps : Side → ℕ → Exchange (Answer A)) where
  -- The counted scancodes of a side, and the bytes of its own that wait: "Each side has its own
  -- prefix, flags and waiting bytes (those its own lamp exchanges caught)."
  abbrev pub counted_of : Side → Past Call → Past ℕ
  counted_of side calls = counted (rules_at table lamps side) (own table.keyboards side calls)

  abbrev pub waits_of : Side → Past Call → List ℕ
  waits_of side calls = waits (rules_at table lamps side) (own table.keyboards side calls)

  -- The scancode that a handler call for a side counts after a list of calls, if it counts one; at
  -- a table without that side, none.
  unfoldable pub scancode_of : Past Call → Side → List ℕ → List ℕ → Option ℕ
  scancode_of past side script log = cond (at_table table.keyboards side)
      (scancode_after (rules_at table lamps side) (counted_of side past) (waits_of side past) script
      log) none

  -- Of each handler call of the list, whether it counts a scancode.
  unfoldable pub counts : Past Call → Past Bool
  counts nothing = nothing
  counts (past ▸ handling side script log) =
      counts past ▸ is_some (scancode_of past side script log)
  counts (past ▸ taking) = counts past
