-- A list of calls, read over what the counted scancodes of each side say: what each call does to
-- the row of waiting events, one for both sides.
use Rattle.std.specs.Prelude.{Bool, false, cond, List, [], ◌++◌, ℕ}
use Rattle.std.proofs.Math.Option.{Option}
use Rattle.exchange.specs.Exchange.{Exchange}
use Rattle.exchange.specs.Answer.{Answer}
use Rattle.keycodes_ascii.specs.declared.KeyEvent.{KeyEvent}
use Rattle.keyboard_scancodes.specs.declared.Profile.{Profile}
use Rattle.keyboard_sides.specs.declared.Side.{Side}
use Rattle.keyboard_sides.specs.Sides.{same_side}
use Rattle.keyboard_sides.specs.Named.{Sided}
use Rattle.keyboard_record.specs.declared.Table.{Table}
use Rattle.scancode_set2.specs.Codes.{Code}
use Rattle.theorem_history.specs.Past.{Past, nothing, ◌▸◌}
use Rattle.theorem_history.specs.Said.{event_given}
use Rattle.theorem_history.specs.Counted.{Call, handling, taking, counts}
use Rattle.theorem_history.specs.Row.{Given, less_met, any_met, given_to, first, rest}
use Rattle.theorem_history_set2.specs.SaidSet2.{event_set2}

-- ---- what scancodes give, each an event or none

-- Those of a stream, code by code.
unfoldable pub each_set2 : Profile → Past Code → Past (List KeyEvent)
each_set2 profile nothing = nothing
each_set2 profile (past ▸ c) = each_set2 profile past ▸ event_set2 profile past c

-- And those of a side of which no stream is known, byte by byte.
unfoldable pub each_said : Profile → Past ℕ → Past (List KeyEvent)
each_said profile nothing = nothing
each_said profile (past ▸ b) = each_said profile past ▸ event_given profile past b

-- All but the last, and what the last one gives.
abbrev pub before : Past (List KeyEvent) → Past (List KeyEvent)
before nothing = nothing
before (past ▸ es) = past

abbrev pub last_given : Past (List KeyEvent) → List KeyEvent
last_given nothing = []
last_given (past ▸ es) = es

-- What the scancodes of each side give, less the last of one side.
abbrev pub less_last : Side → (Side → Past (List KeyEvent)) → Side → Past (List KeyEvent)
less_last side said t = cond (same_side side t) (before (said t)) (said t)

-- ---- the calls

-- A call is a handler call for a side, which gives an event or none, or a taking.
pub data Turn : Type 0 where
  handled : Side → List KeyEvent → Turn
  took : Turn

-- Whether the last handler call counts a scancode.
abbrev pub last_counts : Past Bool → Bool
last_counts nothing = false
last_counts (past ▸ counts) = counts

module _ {A : Type 0} (table : Table) (lamps : Side → ℕ → Exchange (Answer A)) where
  -- What the calls do where the counted scancodes of each side give this: the last handler call of
  -- a side that counts one has the side's last.
  unfoldable pub turns : Past Call → (Side → Past (List KeyEvent)) → Past Turn
  turns nothing said = nothing
  turns (past ▸ handling side script log) said =
      cond (last_counts (counts table lamps (past ▸ handling side script log)))
      (turns past (less_last side said) ▸ handled side (last_given (said side)))
      (turns past said ▸ handled side [])
  turns (past ▸ taking) said = turns past said ▸ took

-- ---- the row

module _ (table : Table) where
  -- "Empty at first; an event given joins its end if fewer than 128 wait there, otherwise it met
  -- 128 waiting and never joins; a taking removes the first"; "with two keyboards an event that
  -- finds 96 of its side there met 31 and never joins"; nor does one that met 33.
  unfoldable pub row_of : Past Turn → List (Sided KeyEvent)
  row_of nothing = []
  row_of (past ▸ handled side es) = row_of past ++ less_met (given_to table side (row_of past) es)
  row_of (past ▸ took) = rest (row_of past)

  -- The events given, in order, with what each met.
  unfoldable pub given_of : Past Turn → List Given
  given_of nothing = []
  given_of (past ▸ handled side es) = given_of past ++ given_to table side (row_of past) es
  given_of (past ▸ took) = given_of past

  -- Of each handler call, whether its event met what n refuses.
  unfoldable pub meets_of : ℕ → Past Turn → Past Bool
  meets_of n nothing = nothing
  meets_of n (past ▸ handled side es) =
      meets_of n past ▸ any_met n (given_to table side (row_of past) es)
  meets_of n (past ▸ took) = meets_of n past

  -- "Each taking answers the event removed, or "none" from an empty row."
  unfoldable pub removed_of : Past Turn → Past (Answer (Option (Sided KeyEvent)))
  removed_of nothing = nothing
  removed_of (past ▸ handled side es) = removed_of past
  removed_of (past ▸ took) = removed_of past ▸ first (row_of past)
