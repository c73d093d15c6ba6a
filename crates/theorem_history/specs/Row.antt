-- The row of waiting events, one for both sides, kept from the list of calls alone, and the events
-- that joined it or met 33, 96 of their side or 128.
use Rattle.std.specs.Prelude.{Bool, false, cond, ◌||◌, List, [], ◌∷◌, ◌++◌, map, ℕ, eqb}
use Rattle.std.proofs.Math.Option.{Option, none, some}
use Rattle.exchange.specs.Exchange.{Exchange}
use Rattle.exchange.specs.Answer.{Answer, gives, number_answered}
use Rattle.ps2_answers.specs.Refusals.{Success}
use Rattle.keycodes_ascii.specs.declared.KeyEvent.{KeyEvent}
use Rattle.keyboard_scancodes.specs.declared.Profile.{Profile}
use Rattle.keyboard_sides.specs.declared.Side.{Side}
use Rattle.keyboard_sides.specs.Sides.{same_side}
use Rattle.keyboard_sides.specs.Named.{Sided, sides_in}
use Rattle.keyboard_record.specs.declared.Table.{Table}
use Rattle.keyboard_record.specs.Queue.{admits, if_given}
use Rattle.theorem_history.specs.Past.{Past, nothing, ◌▸◌}
use Rattle.theorem_history.specs.Said.{event_given}
use Rattle.theorem_history.specs.Counted.{Call, handling, taking, counted_of, scancode_of}

-- An event given, with its side, and what it met: 33, 31 or 20, or a place in the row.
pub record Given : Type 0 where
  pub event : Sided KeyEvent
  pub met : Answer Success

-- The events given, all of them, and less those that met 33, 31 or 20.
abbrev pub events : List Given → List (Sided KeyEvent)
events [] = []
events (g ∷ given) = g.event ∷ events given

unfoldable pub less_met : List Given → List (Sided KeyEvent)
less_met [] = []
less_met (g ∷ given) = if_given g.met (g.event ∷ less_met given) (less_met given)

-- What the events given of a side met, in order; and events less those that met 33, 31 or 20, where
-- the first of them met the first of these, and so on.
unfoldable pub met_by : Side → List Given → List (Answer Success)
met_by side [] = []
met_by side (g ∷ given) = cond (same_side side g.event.side) (g.met ∷ met_by side given) (met_by side given)

unfoldable pub less_those : List (Answer Success) → List KeyEvent → List KeyEvent
less_those [] es = []
less_those (met ∷ more) [] = []
less_those (met ∷ more) (e ∷ es) = if_given met (e ∷ less_those more es) (less_those more es)

-- Whether one of them met what the number n refuses: 33, a key outside the profile; 31, 96 waiting
-- of its side; or 20, 128 waiting.
unfoldable pub any_met : ℕ → List Given → Bool
any_met n [] = false
any_met n (g ∷ given) = eqb (number_answered g.met) n || any_met n given

-- Events of a side given while a row waits: "with two keyboards an event that finds 96 of its side
-- there met 31 and never joins, and only another can meet 128"; those that met 33 "never join the
-- row and meet neither 96 nor 128".
unfoldable pub given_to : Table → Side → List (Sided KeyEvent) → List KeyEvent → List Given
given_to table side row es = map (λ e. record {
  event = record { side = side; one = e };
  met = admits table side (sides_in row) e.keycode;
}) es

-- The event, if any, of the scancode that a call counts after these bytes of its side.
abbrev pub event_of_call : Profile → Past ℕ → Option ℕ → List KeyEvent
event_of_call profile bytes none = []
event_of_call profile bytes (some b) = event_given profile bytes b

-- What a taking from a row answers, and what it leaves: "a taking removes the first".
abbrev pub first : List (Sided KeyEvent) → Answer (Option (Sided KeyEvent))
first [] = gives none
first (e ∷ es) = gives (some e)

abbrev pub rest : List (Sided KeyEvent) → List (Sided KeyEvent)
rest [] = []
rest (e ∷ es) = es

module _ {A : Type 0} (table : Table) (lamps : Side → ℕ → Exchange (Answer A)) where
  -- The event, if any, that a handler call for a side gives after a list of calls and with this
  -- row, with what it met there.
  unfoldable pub newly : Past Call → List (Sided KeyEvent) → Side → List ℕ → List ℕ → List Given
  newly past row side script log = given_to table side row
      (event_of_call table.profile (counted_of table lamps side past)
      (scancode_of table lamps past side script log))

  -- "The row, like the queue, is one for both sides." "Empty at first;
  -- an event given joins its end if fewer than 128 wait there, otherwise
  -- it met 128 waiting and never joins; a taking removes the first."
  unfoldable pub row : Past Call → List (Sided KeyEvent)
  row nothing = []
  row (past ▸ handling side script log) =
      row past ++ less_met (newly past (row past) side script log)
  row (past ▸ taking) = rest (row past)

  -- The events given by the calls, in order, with what each met.
  unfoldable pub given : Past Call → List Given
  given nothing = []
  given (past ▸ handling side script log) = given past ++ newly past (row past) side script log
  given (past ▸ taking) = given past

  -- Of each handler call, whether its event met what n refuses.
  unfoldable pub meets_with : ℕ → Past Call → Past Bool
  meets_with n nothing = nothing
  meets_with n (past ▸ handling side script log) =
      meets_with n past ▸ any_met n (newly past (row past) side script log)
  meets_with n (past ▸ taking) = meets_with n past

  -- "Each taking answers the event removed, or "none" from an empty row."
  unfoldable pub removed : Past Call → Past (Answer (Option (Sided KeyEvent)))
  removed nothing = nothing
  removed (past ▸ handling side script log) = removed past
  removed (past ▸ taking) = removed past ▸ first (row past)
