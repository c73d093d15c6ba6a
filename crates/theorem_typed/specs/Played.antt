-- The promise of typed text, of a list of calls of one side from a fresh record on.
use Rattle.std.specs.Prelude.{false, List, [], ◌≡◌, ℕ, ◌≤◌}
use Rattle.exchange.specs.Exchange.{Exchange}
use Rattle.exchange.specs.Answer.{Answer}
use Rattle.keyboard_scancodes.specs.declared.Profile.{Profile}
use Rattle.keyboard_sides.specs.declared.Side.{Side}
use Rattle.keyboard_sides.specs.Sides.{same_side}
use Rattle.keyboard_sides.specs.Named.{of_side}
use Rattle.keyboard_record.specs.declared.Keyboards.{Keyboards}
use Rattle.keyboard_record.specs.declared.Table.{Table}
use Rattle.keyboard_record.specs.Queue.{waiting}
use Rattle.keyboard_record.specs.Record.{keyboard_at}
use Rattle.keyboard.specs.Handler.{handled, log_left}
use Rattle.theorem_history.specs.Past.{Past, nothing, ◌▸◌}
use Rattle.theorem_history.specs.Counted.{Call, handling, taking, counted_of}
use Rattle.theorem_history.specs.Run.{after, takings, events_taken}
use Rattle.theorem_typed.specs.Fed.{characters}

-- "The promise of 2.6 speaks of handlers without" the
-- profile: a table with so many keyboards, for any keys.
abbrev pub unrated : Keyboards → Table
unrated keyboards = record { keyboards = keyboards; profile = Profile.Any }

module _ {A : Type 0} (keyboards : Keyboards) (lamps : Side → ℕ → Exchange (Answer A)) where
  -- No handler call uses a script byte but the one, or writes a pair: no lamp exchange is run.
  pub data Quiet : Past Call → Type 0 where
    no_call : Quiet nothing
    quiet_call : {past : Past Call} {side : Side} {script log : List ℕ} → Quiet past
        → (handled lamps side (after (unrated keyboards) lamps past) script log).used ≤ 1
        → (handled lamps side (after (unrated keyboards) lamps past) script log).pairs ≡ 0
        → log_left lamps side (after (unrated keyboards) lamps past).state script log ≡ log
        → Quiet (past ▸ handling side script log)
    quiet_taking : {past : Past Call} → Quiet past → Quiet (past ▸ taking)

  pub record Played (side : Side) (text : List ℕ) (bytes : Past ℕ) (calls : Past Call)
      : Type 0 where
    -- "Must give press events whose characters, those without one passed over, are the text."
    pub is_text : characters (of_side side (events_taken (takings (unrated keyboards) lamps calls)))
        ≡ text
    -- every event names the side
    pub no_other : (other : Side) → same_side other side ≡ false
        → of_side other (events_taken (takings (unrated keyboards) lamps calls)) ≡ []
    -- every byte is counted: no call ends in 2, 3 or 21
    pub all_counted : counted_of (unrated keyboards) lamps side calls ≡ bytes
    pub quiet : Quiet calls
    -- no event waits, no key is held, no lock is on, and no prefix was the last byte
    pub none_waits : waiting (after (unrated keyboards) lamps calls) ≡ []
    pub no_flags : (keyboard_at side (after (unrated keyboards) lamps calls).state).modifiers.bits
        ≡ 0
    pub no_prefix : (keyboard_at side (after (unrated keyboards) lamps calls).state).prefix ≡ false
