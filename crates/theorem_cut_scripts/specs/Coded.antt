-- Answers as the code gives them: its results and enums, with the records, the kept bytes and the
-- count of dropped ones beside them.
use Rattle.std.specs.Prelude.{ℕ, Bool, false, List, Result, Ok, Err, ◌≡◌, Option, None}
use Rattle.exchange.specs.Exchange.{Port, p60, p64, End}
use Rattle.exchange.specs.Answer.{Answer}
use Rattle.exchange.specs.Repeat.{Turn}
use Rattle.ps2_answers.specs.declared.ReadPort.{ReadPort}
use Rattle.ps2_answers.specs.declared.Lack.{Lack}
use Rattle.ps2_answers.specs.declared.Refusal.{Refusal}
use Rattle.ps2_answers.specs.declared.Counted.{Counted}
use Rattle.ps2_answers.specs.Answers.{counted, ended, turn_end, used_of, pairs_of}
use Rattle.keyboard_record.specs.declared.HandlerState.{HandlerState}
use Rattle.keyboard_record.specs.declared.KeyboardHandler.{KeyboardHandler}
use Rattle.keycodes_ascii.specs.declared.KeyEvent.{KeyEvent}
use Rattle.keyboard.specs.declared.HandlerRefusal.{HandlerRefusal}
use Rattle.keyboard.specs.Answers.{said_call, said_lamps}
use Rattle.keyboard.specs.Outcomes.{said_event}
use Rattle.theorem_cut_scripts.specs.CutShort.{Handed, handed}
use Rattle.theorem_cut_scripts.specs.Forms.{AnswerWith, answer_with, StateBack, RecordBack}

-- The code's lack of a script byte from a port, and its refusal for it.
abbrev pub read_port : Port → ReadPort
read_port p60 = ReadPort.Data
read_port p64 = ReadPort.Status

abbrev pub no_byte : Port → Lack
no_byte p = Lack.Script (read_port p)

abbrev pub lacking : Port → Refusal
lacking p = Refusal.Lacking (no_byte p)

-- The code's answers X, by what says their meaning: no two of them say the same, and `coded p` is
-- the one that says the answer 2 for want of a byte from p.
pub record Codes {X R : Type 0} (said : X → R) (two : Port → R) (coded : Port → X) : Type 0 where
  pub apart : (x x' : X) → said x ≡ said x' → x ≡ x'
  pub says_two : (p : Port) → said (coded p) ≡ two p

-- An answer of the code with kept bytes or a record beside it.
pub record CodedWith (K X : Type 0) : Type 0 where
  pub answer : X
  pub beside : K

abbrev pub coded_with : {K X : Type 0} → K → (Port → X) → Port → CodedWith K X
coded_with k coded p = record { answer = coded p; beside = k }

abbrev pub said_with : {K X A : Type 0} → (X → End A) → CodedWith K X → AnswerWith K A
said_with said c = answer_with (said c.answer) c.beside

-- ---- what an exchange of the code answers: a result that has its counts in either case

-- The answer but for its counts, and with other ones.
abbrev pub uncounted : {T : Type 0} → Result (Counted T) (Counted Refusal) → Result T Refusal
uncounted (Ok a) = Ok a.value
uncounted (Err e) = Err e.value

abbrev pub recounted : {T : Type 0} → Result T Refusal → ℕ → ℕ
    → Result (Counted T) (Counted Refusal)
recounted (Ok v) u w = Ok (counted v u w)
recounted (Err e) u w = Err (counted e u w)

-- What it says, whatever its counts: of the end of a play, and of one turn of a repetition.
abbrev pub said_result : {T : Type 0} → Result T Refusal → End (Answer T)
said_result x = ended (recounted x 0 0)

abbrev pub said_turn : {T B : Type 0} → (T → Turn (Answer B)) → Result T Refusal
    → End (Turn (Answer B))
said_turn worth x = turn_end worth (recounted x 0 0)

abbrev pub refused_for : {T : Type 0} → Port → Result T Refusal
refused_for p = Err (lacking p)

-- What such a call hands back: alone, and with kept bytes or a record beside the answer.
abbrev pub handed_answer : {T : Type 0} → Result (Counted T) (Counted Refusal) → List ℕ
    → Handed (Result T Refusal)
handed_answer r l = handed (uncounted r) (used_of r) (pairs_of r) l

abbrev pub handed_beside : {K T : Type 0} → Result (Counted T) (Counted Refusal) → K → List ℕ
    → Handed (CodedWith K (Result T Refusal))
handed_beside r k l =
    handed (record { answer = uncounted r; beside = k }) (used_of r) (pairs_of r) l

-- ---- what a handler call answers

-- What a handler call of the code gives back beside its counts: but for the places, and with them.
pub record StateCoded : Type 0 where
  pub answer : Result (Unit {0}) HandlerRefusal
  pub failed : Bool
  pub state : HandlerState
  pub event : Option KeyEvent
  pub dropped : ℕ

pub record RecordCoded : Type 0 where
  pub answer : Result (Unit {0}) HandlerRefusal
  pub failed : Bool
  pub handler : KeyboardHandler
  pub dropped : ℕ

abbrev pub said_state : StateCoded → StateBack
said_state x = record {
  end = said_call x.answer;
  lamps = said_lamps x.failed;
  state = x.state;
  event = said_event x.event;
  dropped = x.dropped;
}

abbrev pub said_record : RecordCoded → RecordBack
said_record x = record {
  end = said_call x.answer;
  lamps = said_lamps x.failed;
  handler = x.handler;
  dropped = x.dropped;
}

abbrev pub coded_state : HandlerState → Port → StateCoded
coded_state passed p = record {
  answer = Err (HandlerRefusal.Lacking (no_byte p));
  failed = false;
  state = passed;
  event = None;
  dropped = 0;
}

abbrev pub coded_record : KeyboardHandler → Port → RecordCoded
coded_record passed p = record {
  answer = Err (HandlerRefusal.Lacking (no_byte p));
  failed = false;
  handler = passed;
  dropped = 0;
}
