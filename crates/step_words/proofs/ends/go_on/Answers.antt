-- `go_on` meets its contract.
use mathlib.Core.Path.{sym, ap, ◌∙◌}
use Rattle.std.specs.Prelude.{take, Err}
use Rattle.sessions.specs.Operations.{talk_of}
use Rattle.sessions.specs.Rounds.{rounds, past}
use Rattle.step_words.proofs.Left.{given_left}
use Rattle.step_words.proofs.ends.go_on.Goals as goal

pub stopped-requires-clause-room : goal.stopped-requires-clause-room
stopped-requires-clause-room c = λ q h. c.requires.room q (c.in-Err.is ∙ ap (λ x. Err x) h)

pub returns-in-Ok-clause-left : goal.returns-in-Ok-clause-left
returns-in-Ok-clause-left c = λ o p h s.
    given_left (past (rounds (talk_of o)) (take c.args.count p)) c.end.new.fields p c.in-Ok.ending c.in-Ok.is s c.end.ensures.place c.end.ensures.ending c.end.ensures.said

pub returns-in-Err-clause-left : goal.returns-in-Err-clause-left
returns-in-Err-clause-left c = λ o p h s. c.stopped.ensures.left o p h (sym c.in-Err.is ∙ s)
