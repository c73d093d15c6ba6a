-- `command` meets its contract: so many attempts of the command rule are left.
use Rattle.std.proofs.Common.{◌≡◌}
use Rattle.ps2_answers.specs.declared.Failure.TheVariants.{NotAcknowledged}
use Rattle.talks.specs.Heard.{heard, attempts_heard}
use Rattle.talks.specs.Commands.{attempt, command}
use Rattle.talks.proofs.commands.command.Given as goal

abbrev pub decreases-loop-attempts : goal.decreases-loop-attempts
decreases-loop-attempts g l = l.attempts

abbrev pub invariant-loop-attempts : goal.invariant-loop-attempts
invariant-loop-attempts g l =
    heard g.P.Partner.replies (command l.value) l.initial.partner
    ≡ attempts_heard l.attempts NotAcknowledged (heard g.P.Partner.replies (attempt l.value)) l.partner
