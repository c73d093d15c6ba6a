-- Steps in a row, each with the same scripts, on one state and one log.
use Rattle.std.specs.Prelude.{List, ℕ, zero, suc}
use Rattle.keyboard.specs.KeyboardLamps.{keyboard_lamps}
use Rattle.dispatcher.specs.declared.Dispatcher.{Dispatcher}
use Rattle.dispatcher.specs.Sources.{Scripts}
use Rattle.dispatcher.specs.Step.{Stepped, step_of}
use Rattle.keyboard_scancodes.specs.declared.Profile.{Profile}
use Rattle.keyboard_record.specs.declared.Keyboards.{Keyboards}
use Rattle.keyboard_record.specs.declared.Table.{Table}

-- A table with two keyboards, without a profile.
abbrev pub two_keyboards : Table
two_keyboards = record { keyboards = Keyboards.Two; profile = Profile.Any }

-- What a step leaves: the state and the log.
pub record Left : Type 0 where
  pub state : Dispatcher
  pub log : List ℕ

abbrev pub left : Dispatcher → List ℕ → Left
left d log = record { state = d; log = log }

abbrev pub left_by : Stepped → Left
left_by o = left o.state o.log

-- One step more.
abbrev pub one_more : Scripts → Left → Left
one_more s x = left_by (step_of keyboard_lamps x.state s x.log)

-- What so many steps leave.
unfoldable pub made : ℕ → Scripts → Left → Left
made zero s x = x
made (suc n) s x = one_more s (made n s x)
