-- What the answer of the initialisation's code says of the end of a play.
use Rattle.std.specs.Prelude.{Result}
use Rattle.exchange.specs.Exchange.{End, told_end}
use Rattle.exchange.specs.Left.{Left, left}
use Rattle.ps2_answers.specs.declared.Counted.{Counted}
use Rattle.ps2_answers.specs.declared.Refusal.{Refusal}
use Rattle.ps2_answers.specs.Refusals.{Success}
use Rattle.ps2_answers.specs.Answers.{ended}
use Rattle.ps2_init.specs.declared.PS2Controller.{PS2Controller}

-- An answer that comes with the record as it is left. A
-- lack says nothing of the record; `record_after` does.
abbrev pub said_init : Result (Counted Success) (Counted Refusal) → PS2Controller
    → End (Left PS2Controller Success)
said_init answer c = told_end (λ a. left a c) (ended answer)
