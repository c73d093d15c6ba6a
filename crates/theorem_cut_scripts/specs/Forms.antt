-- What calls hand back beside their counts, by the forms of their
-- contracts, and what that is with the answer 2: "after 2, 3 or 21
-- records are as passed in", nothing is kept, and 0 bytes are dropped.
-- An operation that hands back an answer and a value alone hands back the end of its play; with the
-- answer 2 that is `lack p`.
use Rattle.std.specs.Prelude.{ℕ}
use Rattle.std.proofs.Math.Option.{Option, none}
use Rattle.exchange.specs.Exchange.{Port, no_script, End, lacks}
use Rattle.exchange.specs.Answer.{Answer, gives}
use Rattle.ps2_answers.specs.Refusals.{Success, success}
use Rattle.ps2_kept.specs.declared.KeptBytes.{KeptBytes}
use Rattle.ps2_kept.specs.Kept.{nothing_kept}
use Rattle.keycodes_ascii.specs.declared.KeyEvent.{KeyEvent}
use Rattle.keyboard_record.specs.declared.HandlerState.{HandlerState}
use Rattle.keyboard_record.specs.declared.KeyboardHandler.{KeyboardHandler}
use Rattle.keyboard.specs.Handler.{Effects, Called}

-- The answer 2, with the port that was to be read.
abbrev pub lack : {A : Type 0} → Port → End A
lack p = lacks (no_script p)

-- ---- an answer, with something beside it: kept bytes, or a record

pub record AnswerWith (X A : Type 0) : Type 0 where
  pub end : End A
  pub beside : X

abbrev pub answer_with : {X A : Type 0} → End A → X → AnswerWith X A
answer_with e x = record { end = e; beside = x }

-- The bytes that a receiving or a command threw away: with 2, none.
abbrev pub lack_kept : {A : Type 0} → Port → AnswerWith KeptBytes A
lack_kept p = answer_with (lack p) nothing_kept

-- A record: with 2, as passed in.
abbrev pub lack_with : {X A : Type 0} → X → Port → AnswerWith X A
lack_with passed p = answer_with (lack p) passed

-- ---- a handler call

-- But for the places, and with them. The lamp exchange's own answer stands beside the call's.
pub record StateBack : Type 0 where
  pub end : End (Answer Success)
  pub lamps : Answer Success
  pub state : HandlerState
  pub event : Option KeyEvent
  pub dropped : ℕ

pub record RecordBack : Type 0 where
  pub end : End (Answer Success)
  pub lamps : Answer Success
  pub handler : KeyboardHandler
  pub dropped : ℕ

abbrev pub state_back : Effects → StateBack
state_back x =
    record { end = x.end; lamps = x.lamps; state = x.state; event = x.event; dropped = x.dropped }

abbrev pub record_back : Called → RecordBack
record_back x = record { end = x.end; lamps = x.lamps; handler = x.handler; dropped = x.dropped }

abbrev pub lack_state : HandlerState → Port → StateBack
lack_state passed p =
    record { end = lack p; lamps = gives success; state = passed; event = none; dropped = 0 }

abbrev pub lack_record : KeyboardHandler → Port → RecordBack
lack_record passed p = record { end = lack p; lamps = gives success; handler = passed; dropped = 0 }
