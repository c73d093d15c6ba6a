-- An answer that comes with the mouse's record as it is left.
use Rattle.std.specs.Prelude.{List, ◌≡◌, ℕ}
use Rattle.std.proofs.Math.Option.{Option}
use Rattle.exchange.specs.Exchange.{End}
use Rattle.exchange.specs.Answer.{Answer, number_ended}
use Rattle.exchange.specs.Left.{Left}
use Rattle.argument_words.specs.Arguments.{invalid_argument}
use Rattle.ps2_bytes.specs.declared.response.MouseId.{MouseId}
use Rattle.ps2_bytes.specs.Responses.{mouse_id_byte}
use Rattle.ps2_answers.specs.Refusals.{Success}
use Rattle.ps2_mouse.specs.declared.PS2Mouse.{PS2Mouse}
use Rattle.ps2_mouse_identity.specs.Identity.{set_mouse_id}
use Rattle.port_words.specs.declared.PortWords.{PortWords}
use Rattle.port_words.specs.Told.{port_lacked, refusing}
use Rattle.port_words.specs.ToldLeft.{told_left as of_left}
use Rattle.port_words.specs.Tells.{Tells, AtArgument}

-- The value is the record's identity, after a refusal too.
abbrev pub left_numbers : End (Answer Success) → ℕ → ℕ → PS2Mouse → PortWords
left_numbers end used pairs mouse =
    record {
      refusal = number_ended end;
      port = port_lacked end;
      used = used;
      pairs = pairs;
      value = mouse_id_byte mouse.id;
    }

-- "After 2, 3 or 21 records are as passed in"; otherwise the play's end has the record.
abbrev pub told_left : PS2Mouse → End (Left PS2Mouse Success) → ℕ → ℕ → PortWords
told_left passed = of_left left_numbers passed

-- A number for the identity of the record that is passed: where it stands for none the log stays;
-- otherwise it is `set_mouse_id` on that record.
abbrev pub TellsLeftAt : Option MouseId → List ℕ → List ℕ → PortWords → List ℕ → Type 0
TellsLeftAt argument script log answer log' =
    AtArgument argument ((answer ≡ refusing invalid_argument) × (log' ≡ log))
    (λ id. Tells (told_left (record { id = id })) (set_mouse_id (record { id = id })) script log
    answer log')
