-- Under the tournament profile: no lock is on after any list of calls, and every event that is taken, or waits, is one of a rated game.
use mathlib.Core.Path.{◌≡◌, refl, sym, ◌∙◌}
use mathlib.Core.Bool.{Bool, true, false, not, and-eq-true_iff}
use mathlib.Core.List.{List, [], ◌∷◌, ◌++◌}
use mathlib.Core.Option.{Option, none, some}
use Prim.Native.Nat.{ℕ, zero, suc}
use lib.Dec.{eqb}
use Rattle.bits.specs.Bits.{bit, odd}
use Rattle.bits.proofs.Bits.{bit_put_other}
use Rattle.exchange.specs.Exchange.{Exchange}
use Rattle.exchange.specs.Answer.{Answer}
use Rattle.keyboard_modifiers.specs.Flags.{caps_lock, num_lock, scroll_lock}
use Rattle.keycodes_ascii.specs.declared.KeyEvent.{KeyEvent}
use Rattle.keyboard_scancodes.specs.declared.Profile.{Profile}
use Rattle.keyboard_scancodes.specs.Events.{event_of, gives_event}
use Rattle.keyboard_scancodes.specs.FlagTable.{FlagRow, flag_table}
use Rattle.keyboard_scancodes.specs.Profile.{followed}
use Rattle.keyboard_scancodes.proofs.Flags.{apart, differ}
use Rattle.keyboard_sides.specs.declared.Side.{Side}
use Rattle.keyboard_sides.specs.Named.{Sided, sides_in}
use Rattle.keyboard_record.specs.declared.Keyboards.{Keyboards}
use Rattle.keyboard_record.specs.declared.Table.{Table}
use Rattle.keyboard_record.specs.Queue.{waiting}
use Rattle.keyboard_record.specs.Record.{keyboard_at}
use Rattle.keyboard_record.proofs.Meeting.{Admits, not_admitted, admitted, admits_cases}
use Rattle.theorem_history.specs.Past.{Past, nothing, ◌▸◌}
use Rattle.theorem_history.specs.Said.{strokes, said, word_of, flags_said, event_given}
use Rattle.theorem_history.specs.Counted.{Call, handling, taking, counted_of, scancode_of}
use Rattle.theorem_history.specs.Row.{less_met, given_to, event_of_call, newly, row, given}
use Rattle.theorem_history.specs.Run.{after, takings, events_taken}
use Rattle.theorem_history.specs.Referees.{AllRated, no_event, one_event}
use Rattle.theorem_history.proofs.Row.{given_none, given_one, less_none, less_room, less_full, less_append}
use Rattle.theorem_history.proofs.History.{history}

-- ---- the lock rule reads "off"

bit_none : (k : ℕ) → bit k 0 ≡ false
unfolding bit odd
bit_none zero = refl
bit_none (suc k) = bit_none k

-- a flag of none of the rows is clear
bit_apart : (f : FlagRow → Bool) (k : ℕ) (rows : List FlagRow) → apart k rows ≡ true → bit k (word_of f rows) ≡ false
unfolding word_of
bit_apart f k [] t = bit_none k
bit_apart f k (r ∷ rows) t =
    let p = (and-eq-true_iff (not (eqb k r.flag)) (apart k rows)).0 t in
    bit_put_other k r.flag (f r) (word_of f rows) (λ e. differ k r.flag p.0 (sym e)) ∙ bit_apart f k rows p.1

-- the locks' flags are not among those that the profile follows
apart_locks : (apart caps_lock (followed Profile.Tournament) ≡ true) × (apart num_lock (followed Profile.Tournament) ≡ true) × (apart scroll_lock (followed Profile.Tournament) ≡ true)
unfolding followed flag_table
apart_locks = (refl, refl, refl)

abbrev pub LocksOff : ℕ → Type 0
LocksOff flags = (bit caps_lock flags ≡ false) × (bit num_lock flags ≡ false) × (bit scroll_lock flags ≡ false)

-- no lock is on, whatever is said of the rows
pub word_locks_off : (f : FlagRow → Bool) → LocksOff (word_of f (followed Profile.Tournament))
word_locks_off f =
    let rows = followed Profile.Tournament in
    (bit_apart f caps_lock rows apart_locks.0, bit_apart f num_lock rows apart_locks.1, bit_apart f scroll_lock rows apart_locks.2)

pub locks_off : (bytes : Past ℕ) → LocksOff (flags_said Profile.Tournament bytes)
unfolding flags_said
locks_off bytes = word_locks_off (said (strokes bytes))

-- ---- the events

rated_append : {es fs : List (Sided KeyEvent)} → AllRated es → AllRated fs → AllRated (es ++ fs)
rated_append no_event g = g
rated_append (one_event r f) g = one_event r (rated_append f g)

module _ {A : Type 0} (keyboards : Keyboards) (lamps : Side → ℕ → Exchange (Answer A)) where
  abbrev table : Table
  table = record { keyboards = keyboards; profile = Profile.Tournament }

  -- an event that a byte gives, where it finds a place
  module _ (side : Side) (r : List (Sided KeyEvent)) where
    rated_one : (e : KeyEvent) → LocksOff e.modifiers.bits → Admits table side (sides_in r) e.keycode → AllRated (less_met (given_to table side r (e ∷ [])))
    rated_one e off (not_admitted m q) = rw (less_full table side r e q) no_event
    rated_one e off (admitted i m q) =
        rw (less_room table side r e q) (one_event (record { key_inside = i; no_caps_lock = off.0; no_num_lock = off.1; no_scroll_lock = off.2 }) no_event)

    rated_event : (bytes : Past ℕ) (b : ℕ) (c : Bool) → gives_event b ≡ c → AllRated (less_met (given_to table side r (event_given Profile.Tournament bytes b)))
    rated_event bytes b true g =
        let e = event_of b (flags_said Profile.Tournament (bytes ▸ b)) in
        rw (given_one Profile.Tournament bytes b g) (rated_one e (event_off (bytes ▸ b)) (admits_cases table side (sides_in r) e.keycode))
      where
        event_off : (past : Past ℕ) → LocksOff (event_of b (flags_said Profile.Tournament past)).modifiers.bits
        event_off past = unfold event_of in locks_off past
    rated_event bytes b false g = rw (given_none Profile.Tournament bytes b g, less_none table side r) no_event

    rated_call : (bytes : Past ℕ) (sc : Option ℕ) → AllRated (less_met (given_to table side r (event_of_call Profile.Tournament bytes sc)))
    rated_call bytes none = rw (less_none table side r) no_event
    rated_call bytes (some b) = rated_event bytes b (gives_event b) refl

  rated_given : (calls : Past Call) → AllRated (less_met (given table lamps calls))
  unfolding given newly less_met
  rated_given nothing = no_event
  rated_given (past ▸ handling side s l) =
      rw (less_append (given table lamps past) (newly table lamps past (row table lamps past) side s l))
      (rated_append (rated_given past) (rated_call side (row table lamps past) (counted_of table lamps side past) (scancode_of table lamps past side s l)))
  rated_given (past ▸ taking) = rated_given past

  -- "under the profile every event that is ever taken has an allowed key and no lock flag", and so has every one that waits
  pub all_rated : (calls : Past Call) → AllRated (events_taken (takings table lamps calls) ++ waiting (after table lamps calls))
  all_rated calls = rw (history table lamps calls).taken_then_waiting (rated_given calls)

  -- and no lock is on in the record
  pub record_locks_off : (calls : Past Call) (side : Side) → LocksOff (keyboard_at side (after table lamps calls).state).modifiers.bits
  record_locks_off calls side = rw ((history table lamps calls).flags side) (locks_off (counted_of table lamps side calls))
