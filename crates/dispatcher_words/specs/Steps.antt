-- What a step of a lent dispatcher means: the answer as
-- numbers, the numbers left, and the state that they stand for.
use Rattle.std.specs.Prelude.{true, false, List, ◌++◌, ◌≡◌, ℕ, length, drop, set, Option, None, Some}
use Rattle.exchange.specs.Answer.{number_answered, number_ended}
use Rattle.port_words.specs.Told.{port_lacked}
use Rattle.port_words.specs.ToldPacket.{told_packet, refusing_packet}
use Rattle.keyboard_sides.specs.declared.Side.{Side}
use Rattle.keyboard.specs.Handler.{effects}
use Rattle.keyboard.specs.KeyboardLamps.{keyboard_lamps}
use Rattle.handler_words.specs.declared.HandledWords.{HandledWords}
use Rattle.handler_words.specs.Layout.{words_length}
use Rattle.handler_words.specs.Words.{state_of}
use Rattle.handler_words.specs.Calls.{refusing, words_left, Untouched}
use Rattle.dispatcher.specs.declared.Source.{Source}
use Rattle.dispatcher.specs.Sources.{Scripts, scripts, place_of, bytes_of}
use Rattle.dispatcher.specs.Step.{CallAnswered, Service, keyed, packet, idle, Stepped, step_of}
use Rattle.dispatcher.specs.Runs.{service_of}
use Rattle.dispatcher_words.specs.declared.StepWords.{StepWords}
use Rattle.dispatcher_words.specs.Layout.{place_at, last_at, dispatcher_length}
use Rattle.dispatcher_words.specs.Words.{source_number, handler_in, names_all, dispatcher_of}

-- ---- the answer

-- What the handler call of a step answers, as numbers:
-- those that the call on the handler's numbers has.
abbrev pub call_numbers : CallAnswered → HandledWords
call_numbers a =
    record {
      refusal = number_ended a.end;
      lamps = number_answered a.lamps;
      used = a.used;
      pairs = a.pairs;
      dropped = a.dropped;
      port = port_lacked a.end;
    }

-- A step that made no call: one that is refused before anything is read, or that is idle.
abbrev pub no_call : ℕ → StepWords
no_call n = record { refusal = n; source = 0; call = refusing 0; packet = refusing_packet 0 }

-- What a step answers, as numbers: the refusal of the call that it made, 0 where there is none; who
-- was served, 0 where nobody waited; and the whole answer of that call, the handler's or the
-- packet's, with 0 everywhere in the other.
abbrev pub step_numbers : Service → StepWords
step_numbers (keyed side a) = record {
  refusal = number_ended a.end;
  source = source_number (Source.Keyboard side);
  call = call_numbers a;
  packet = refusing_packet 0;
}
step_numbers (packet a) = record {
  refusal = number_ended a.end;
  source = source_number Source.Mouse;
  call = refusing 0;
  packet = told_packet a.end a.used a.pairs;
}
step_numbers idle = no_call 0

-- ---- the numbers left

-- The numbers with a source's turn over: another place in its script, and it was served last.
abbrev pub with_turn : Source → ℕ → List ℕ → List ℕ
with_turn source place ws = set (set ws (place_at source) place) last_at (source_number source)

-- The numbers of which the handler's are those that a handler call on these bytes leaves.
abbrev pub with_call : Side → List ℕ → List ℕ → List ℕ → List ℕ
with_call side bytes log ws = words_left side (handler_in ws)
    (effects keyboard_lamps side (state_of (handler_in ws)) bytes log) ++ drop words_length ws

-- The numbers that a step leaves, by whom it served: those of its handler call, the place in that
-- source's script, and who was served last. Every other number stays.
abbrev pub words_stepped : Option Source → Stepped → Scripts → List ℕ → List ℕ → List ℕ
words_stepped None x s log ws = ws
words_stepped (Some (Source.Keyboard side)) x s log ws =
    let source = Source.Keyboard side in
    with_turn source (place_of source x.state.places) (with_call side (bytes_of (dispatcher_of ws) s source) log ws)
words_stepped (Some Source.Mouse) x s log ws =
    with_turn Source.Mouse (place_of Source.Mouse x.state.places) ws

-- ---- the step

-- What is left and answered is this step's, and these are the numbers left.
pub record Made (x : Stepped) (left : List ℕ) (answer : StepWords) (ws' log' : List ℕ)
    : Type 0 where
  pub answered : answer ≡ step_numbers x.answer
  pub leaves : dispatcher_of ws' ≡ x.state
  pub writes : ws' ≡ left
  pub logged : log' ≡ x.log

-- What a step on a dispatcher's 149 numbers comes to: answer and log are
-- those of the step on the state that they stand for, the numbers left
-- stand for the state that it leaves, and each of them is determined.
abbrev pub StepOn : List ℕ → Scripts → List ℕ → StepWords → List ℕ → List ℕ → Type 0
StepOn ws s log answer ws' log' =
    let x = step_of keyboard_lamps (dispatcher_of ws) s log in
    Made x (words_stepped (service_of x.answer) x s log ws) answer ws' log'

-- With any numbers: at another length, and where some name nothing, it
-- is refused with 21, and leaves everything as it was. "As passed in"
-- holds of the turn and the places too, since no source was served.
pub record StepMade (ws first second third log : List ℕ) (answer : StepWords) (ws' log' : List ℕ)
    : Type 0 where
  pub long : length ws ≡ dispatcher_length → names_all ws ≡ true
      → StepOn ws (scripts first second third) log answer ws' log'
  pub unnamed : names_all ws ≡ false → Untouched (no_call 21) ws log answer ws' log'
  pub other : (length ws ≡ dispatcher_length → ⊥) → Untouched (no_call 21) ws log answer ws' log'
