-- Operations that leave a record: the mouse's identity, and the controller.
use Rattle.std.specs.Prelude.{◌≡◌, ℕ, List, cond}
use Rattle.std.proofs.Math.Option.{Option}
use Rattle.exchange.specs.Exchange.{End, told_end}
use Rattle.exchange.specs.Answer.{Answer}
use Rattle.exchange.specs.Keeping.{Kept, kept}
use Rattle.exchange.specs.Left.{Left, record_after}
use Rattle.argument_words.specs.Arguments.{invalid_argument}
use Rattle.ps2_answers.specs.Refusals.{Success}
use Rattle.ps2_bytes.specs.declared.response.MouseId.{MouseId}
use Rattle.ps2_bytes.specs.Responses.{mouse_id_byte}
use Rattle.ps2_init.specs.declared.PS2Controller.{PS2Controller}
use Rattle.ps2_kept.specs.declared.KeptBytes.{KeptBytes}
use Rattle.ps2_kept.specs.Kept.{nothing_kept}
use Rattle.ps2_kept.specs.Added.{keeping_onto}
use Rattle.ps2_mouse.specs.declared.PS2Mouse.{PS2Mouse}
use Rattle.ps2_mouse_identity.specs.Identity.{set_mouse_id}
use Rattle.port_words.specs.Told.{no_value}
use Rattle.port_words.specs.ToldKept.{bytes_kept}
use Rattle.port_words.specs.Tells.{Tells, AtArgument}
use Rattle.mouse_words.specs.Left.{left_numbers}
use Rattle.controller_words.specs.declared.ControllerWords.{ControllerWords}
use Rattle.controller_words.specs.Controller.{numbers_by, numbers_left}
use Rattle.theseus_ps2.specs.declared.recording.Recording.{Recording}
use Rattle.theseus_calls.specs.declared.answers.NotedWords.{NotedWords}
use Rattle.theseus_calls.specs.declared.initialization.InitializedNotedWords.{InitializedNotedWords}
use Rattle.theseus_calls.specs.Recorded.{with_bytes, refusing_noted, told_recorded, told_noted}

-- What the operation answers, without its record.
abbrev pub answer_kept : {R : Type 0} → Kept KeptBytes (Left R Success)
    → Kept KeptBytes (Answer Success)
answer_kept k = kept k.value.answer k.bytes

-- ---- the mouse's identity is the value, after a refusal too

abbrev pub identified_recorded : MouseId → Answer Success → MouseId → Recording → NotedWords
identified_recorded passed answer id left =
    let words = told_recorded no_value answer left in
    record words {
      answer = record words.answer
          { value = mouse_id_byte (cond left.short passed id) };
    }

abbrev pub told_identified : MouseId → End (Kept KeptBytes (Left PS2Mouse Success)) → ℕ → ℕ
    → NotedWords
told_identified passed end used pairs =
    with_bytes (left_numbers (told_end (λ k. k.value.answer) end) used pairs
    (record_after (record { id = passed }) (told_end (λ k. k.value) end))) (bytes_kept end)

abbrev pub TellsIdentifiedAt : Option MouseId → List ℕ → List ℕ → NotedWords → List ℕ → Type 0
TellsIdentifiedAt argument script log answer log' =
    AtArgument argument ((answer ≡ refusing_noted invalid_argument) × (log' ≡ log))
    (λ id. Tells (told_identified id)
    (keeping_onto nothing_kept (set_mouse_id (record { id = id }))) script log answer log')

-- ---- the controller

abbrev pub initialized_recorded : ControllerWords → Answer Success → PS2Controller → Recording
    → InitializedNotedWords
initialized_recorded passed answer now left =
    record {
      run = told_recorded no_value answer left;
      controller = cond left.short passed (numbers_by passed answer now);
    }

abbrev pub told_initialized : ControllerWords → End (Kept KeptBytes (Left PS2Controller Success))
    → ℕ → ℕ → InitializedNotedWords
told_initialized passed end used pairs =
    record {
      run = told_noted no_value (told_end answer_kept end) used pairs;
      controller = numbers_left passed (told_end (λ k. k.value) end);
    }
