-- `dispatcher_words::is_dispatcher` meets its contract: each number is asked in turn, all its bits.
use mathlib.Core.Path.{sym, ◌∙◌}
use mathlib.Core.Bool.{true≢false}
use native.Mathlib.Omega.{arith}
use borrow.Author.Tests.{ltb-true, ltb-false}
use Rattle.dispatcher_words.proofs.Named.{identity_named, identity_unnamed}
use Rattle.dispatcher_words.proofs.is_dispatcher.Goals as goal
use Rattle.dispatcher_words.proofs.is_dispatcher.Goals.{in_default, in_default-2, in-0, in-0-2}

pub returns-then-matches : goal.returns-then-matches
returns-then-matches c =
    let ws = c.args.words.now in
    elim c.match-matches.branch [
      | in_default w ↦ absurd (true≢false (sym c.if-matches.true ∙ w.matches-is))
      | in_default-2 w ↦ absurd (true≢false (sym c.if-matches.true ∙ w.matches-is))
      | in-0 w ↦ identity_named ws (λ p q r. omega (arith, p, q, r)) _ (λ e. omega (arith, ltb-true _ _ e)) (λ e. omega (arith, ltb-false _ _ e))
      | in-0-2 w ↦ identity_named ws (λ p q r. omega (arith, p, q, r)) _ (λ e. omega (arith, ltb-true _ _ e)) (λ e. omega (arith, ltb-false _ _ e))
    ]

pub returns-else-matches : goal.returns-else-matches
returns-else-matches c =
    let ws = c.args.words.now in
    elim c.match-matches.branch [
      | in_default w ↦ rw c.if-matches.false (identity_unnamed ws (λ e. omega (arith, e)) (λ e. omega (arith, e)) (λ e. omega (arith, e)))
      | in_default-2 w ↦ rw c.if-matches.false (identity_unnamed ws (λ e. omega (arith, e)) (λ e. omega (arith, e)) (λ e. omega (arith, e)))
      | in-0 w ↦ absurd (true≢false (sym w.matches-is ∙ c.if-matches.false))
      | in-0-2 w ↦ absurd (true≢false (sym w.matches-is ∙ c.if-matches.false))
    ]
