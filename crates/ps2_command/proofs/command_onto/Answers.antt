-- `ps2_command::command_onto` meets its contract: each turn of the loop is one attempt on what is left, with the bytes kept so far.
use native.Mathlib.Omega.{arith}
use mathlib.Core.Path.{refl, ap, ◌∙◌}
use Rattle.exchange.specs.Exchange.{yields}
use Rattle.exchange.specs.Answer.{gives}
use Rattle.exchange.proofs.Position.{reached_start}
use Rattle.exchange.proofs.KeepingRepeat.{reached_kept_over, reached_kept_again, reached_kept_end}
use Rattle.ps2_answers.specs.Answers.{turn_end}
use Rattle.ps2_answers.specs.Refusals.{refused, success}
use Rattle.ps2_answers.proofs.Then.{exit, reached_brought, reached_stopped}
use Rattle.ps2_command.specs.Command.{command, accepted}
use Rattle.ps2_command.proofs.command_onto.Goals as goal

pub loop-attempts-init : goal.loop-attempts-init
unfolding command
loop-attempts-init c = rw c.new-at.ensures (reached_start _ _ _)

pub loop-attempts-preserved : goal.loop-attempts-preserved
loop-attempts-preserved c =
    let at = c.loop-attempts.invariant in
    let r = c.attempt_once.ensures in
    let k = reached_brought (omega (arith, c.well_formed)) (omega (arith, c.well_formed)) c.loop-attempts.at at _ c.attempt_once.result r _ c.in_ok-at.ensures in
    rw (k.used, k.pairs)
    (reached_kept_again _ _ _ _ _ at _ _ refl r _ (omega arith) (ap (turn_end accepted) k.is ∙ ap (λ v. yields (accepted v)) c.if-at.false))

pub returns-then-attempts-eq0 : goal.returns-then-attempts-eq0
returns-then-attempts-eq0 c = rw c.with.ensures (reached_kept_over _ _ _ _ _ c.loop-attempts.invariant (omega arith))

pub returns-then-at : goal.returns-then-at
returns-then-at c =
    let at = c.loop-attempts.invariant in
    let r = c.attempt_once.ensures in
    let k = reached_brought (omega (arith, c.well_formed)) (omega (arith, c.well_formed)) c.loop-attempts.at at _ c.attempt_once.result r _ c.in_ok-at.ensures in
    rw (c.with-then-at.ensures, k.used, k.pairs)
    (reached_kept_end _ _ _ _ _ at _ _ refl r (yields (gives success)) (omega arith) (ap (turn_end accepted) k.is ∙ ap (λ v. yields (accepted v)) c.if-at.true))

pub returns-in_err-at : goal.returns-in_err-at
returns-in_err-at c =
    let at = c.loop-attempts.invariant in
    let r = c.attempt_once.ensures in
    let k = reached_stopped (omega (arith, c.well_formed)) (omega (arith, c.well_formed)) c.loop-attempts.at at _ c.attempt_once.result r _ c.in_err-at.ensures in
    rw (exit _ _ c.from_residual.ensures.1, k.used, k.pairs)
    (reached_kept_end _ _ _ _ _ at _ _ refl r (refused c.in_err-at.field-0.0.value) (omega arith) (ap (turn_end accepted) k.is))
