-- Handler calls in a row for one side, whose scripts are two in turn, on one record and one log.
use Rattle.std.specs.Prelude.{Bool, true, false, cond, List, ℕ, zero, suc, ◌%◌, eqb}
use Rattle.keyboard_scancodes.specs.declared.Profile.{Profile}
use Rattle.keyboard_sides.specs.declared.Side.{Side}
use Rattle.keyboard_record.specs.declared.KeyboardHandler.{KeyboardHandler}
use Rattle.keyboard_record.specs.declared.Keyboards.{Keyboards}
use Rattle.keyboard_record.specs.declared.Table.{Table}
use Rattle.keyboard.specs.KeyboardLamps.{keyboard_lamps}
use Rattle.keyboard.specs.Handler.{handled, log_left}

-- A table with two keyboards, or with one; with the tournament profile, or without.
abbrev pub keyboards_of : Bool → Keyboards
keyboards_of true = Keyboards.Two
keyboards_of false = Keyboards.One

abbrev pub profile_of : Bool → Profile
profile_of true = Profile.Tournament
profile_of false = Profile.Any

abbrev pub table_of : Bool → Bool → Table
table_of two tournament = record { keyboards = keyboards_of two; profile = profile_of tournament }

-- What a call leaves: the record and the log.
pub record Left : Type 0 where
  pub handler : KeyboardHandler
  pub log : List ℕ

abbrev pub left : KeyboardHandler → List ℕ → Left
left h log = record { handler = h; log = log }

-- One call more.
abbrev pub one_more : Side → List ℕ → Left → Left
one_more side script x = left (handled keyboard_lamps side x.handler script x.log).handler
    (log_left keyboard_lamps side x.handler.state script x.log)

-- The script of a call, of two that are lent in turn: calls are counted from 0.
abbrev pub in_turn : ℕ → List ℕ → List ℕ → List ℕ
in_turn call script other = cond (eqb (call % 2) 0) script other

-- What so many calls leave.
unfoldable pub called : Side → ℕ → List ℕ → List ℕ → Left → Left
called side zero script other x = x
called side (suc n) script other x =
    one_more side (in_turn n script other) (called side n script other x)
