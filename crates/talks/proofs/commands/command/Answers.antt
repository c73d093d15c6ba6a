-- `command` meets its contract.
use native.Mathlib.Omega.{arith}
use mathlib.Core.Path.{refl, sym, ap, ◌∙◌}
use Rattle.std.specs.Prelude.{Ok}
use Rattle.std.proofs.Common.{◌-◌}
use Rattle.ps2_answers.specs.declared.Failure.TheVariants.{NotAcknowledged}
use Rattle.talks.specs.Heard.{by, heard}
use Rattle.talks.specs.Commands.{attempt, command}
use Rattle.talks.proofs.Attempts.{exits, attempts_over, attempt_made}
use Rattle.talks.proofs.commands.command.Goals as goal

pub loop-attempts-init : goal.loop-attempts-init
unfolding command heard
loop-attempts-init g c = refl

pub returns-in_err-attempt : goal.returns-in_err-attempt
returns-in_err-attempt g c =
    rw (exits _ _ c.from_residual.ensures.1)
    (sym (c.loop-attempts.invariant
    ∙ attempt_made NotAcknowledged (heard g.P.Partner.replies (attempt c.args.value)) c.loop-attempts.attempts (c.loop-attempts.attempts - 1) _ _ _ (omega arith) c.in_err-attempt.ensures))

pub loop-attempts-preserved : goal.loop-attempts-preserved
loop-attempts-preserved g c =
    c.loop-attempts.invariant
    ∙ attempt_made NotAcknowledged (heard g.P.Partner.replies (attempt c.args.value)) c.loop-attempts.attempts (c.loop-attempts.attempts - 1) _ _ _ (omega arith)
    (ap (λ b. by (Ok b) c.attempt.new.partner) (sym c.if-branch.false) ∙ c.in_ok-attempt.ensures)

pub returns-then-attempts-eq0 : goal.returns-then-attempts-eq0
returns-then-attempts-eq0 g c =
    attempts_over NotAcknowledged (heard g.P.Partner.replies (attempt c.args.value)) c.loop-attempts.attempts c.loop-attempts.partner (omega arith) ∙ sym c.loop-attempts.invariant

pub returns-then-branch : goal.returns-then-branch
returns-then-branch g c =
    sym (c.loop-attempts.invariant
    ∙ attempt_made NotAcknowledged (heard g.P.Partner.replies (attempt c.args.value)) c.loop-attempts.attempts (c.loop-attempts.attempts - 1) _ _ _ (omega arith)
    (ap (λ b. by (Ok b) c.attempt.new.partner) (sym c.if-branch.true) ∙ c.in_ok-attempt.ensures))
