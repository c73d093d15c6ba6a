-- What the answers of the code that sets the identity say of the ends of plays.
use Rattle.std.specs.Prelude.{Option, Result}
use Rattle.exchange.specs.Exchange.{End, told_end}
use Rattle.exchange.specs.Answer.{Answer, gives}
use Rattle.exchange.specs.Left.{Left, left}
use Rattle.ps2_bytes.specs.declared.response.MouseId.{MouseId}
use Rattle.ps2_answers.specs.declared.Counted.{Counted}
use Rattle.ps2_answers.specs.declared.Refusal.{Refusal}
use Rattle.ps2_answers.specs.Refusals.{Success}
use Rattle.ps2_answers.specs.Answers.{ended}
use Rattle.ps2_mouse.specs.declared.PS2Mouse.{PS2Mouse}
use Rattle.ps2_mouse_identity.specs.Identity.{read_id}

-- An answer that comes with the record as it is left. A
-- lack says nothing of the record; `record_after` does.
abbrev pub said_mouse : Result (Counted Success) (Counted Refusal) → PS2Mouse
    → End (Left PS2Mouse Success)
said_mouse answer mouse = told_end (λ a. left a mouse) (ended answer)

-- What asking for an identity brought: "A failed first identity is forgiven", and brought none; "2
-- and 3 are .. forgiven by nothing". That none leaves the old one, `after_first` and `read_or` say.
abbrev pub identity_brought : End (Answer MouseId) → End (Answer (Option MouseId))
identity_brought asked = told_end (λ id. gives (read_id id)) asked
