-- `stopped` meets its contract.
use mathlib.Core.Path.{ap, ◌∙◌}
use Rattle.std.specs.Prelude.{take, get_or, Err}
use Rattle.sessions.specs.Operations.{talk_of}
use Rattle.sessions.specs.Rounds.{rounds, past}
use Rattle.step_words.specs.Arguments.{operation_in}
use Rattle.step_words.specs.declared.ends.Advance.TheVariants.{Ends}
use Rattle.step_words.proofs.Left.{refused_left, asked_left}
use Rattle.step_words.proofs.ends.stopped.Goals as goal

pub returns-in-Refused-clause-left : goal.returns-in-Refused-clause-left
returns-in-Refused-clause-left c = λ o p h s.
    refused_left (past (rounds (talk_of o)) (take c.args.count p)) c.end.new.fields p c.in-Refused.failure (ap (λ x. Err x) c.in-Refused.is) s
    c.end.ensures.place (c.end.ensures.ending ∙ c.failed.ensures) (c.end.ensures.said ∙ ap (λ e. Ends e.refusal) c.failed.ensures)

pub returns-in-Asks-clause-left : goal.returns-in-Asks-clause-left
returns-in-Asks-clause-left c = λ o p h s.
    asked_left o c.args.count c.asking-request.new.fields p c.in-Asks.question c.begin_question-at.result c.asking-request.result (ap (λ x. Err x) c.in-Asks.is) s c.begin_question-at.ensures
    (ap (λ n. operation_in n (get_or c.asking-request.new.fields 1 0)) c.asking-request.ensures.operation ∙ ap (operation_in (get_or c.args.fields.now 0 0)) c.asking-request.ensures.argument ∙ h)
    c.asking-request.ensures.place c.asking-request.ensures.count (c.requires.room c.in-Asks.question c.in-Asks.is) c.asking-request.ensures.said
