-- `handler_words::keyboard_passes` meets its contract: each number is asked in turn, all its bits.
use mathlib.Core.Path.{sym, ◌∙◌}
use mathlib.Core.Bool.{true≢false}
use native.Mathlib.Omega.{arith}
use borrow.Author.Tests.{ltb-true, ltb-false, le-ltb, leb-true, leb-false}
use Rattle.handler_words.proofs.Passing.{all_asked, prefix_fails, flags_fail, flag_limit_is}
use Rattle.handler_words.proofs.keyboard_passes.Goals as goal
use Rattle.handler_words.proofs.keyboard_passes.Goals.{then-words-at-lt2, else-words-at-lt2}

pub returns-then-words-at : goal.returns-then-words-at
returns-then-words-at c =
    let at = c.keyboard_at-at.ensures.0 in
    elim c.if-words-at-lt2.branch [
      | then-words-at-lt2 w ↦
          rw (← at)
          (all_asked c.args.words.now c.keyboard_at-at.result _
          (omega (arith, w.if-words-at-lt2.true))
          (omega (arith, flag_limit_is, w.from.ensures, ltb-true _ _ (sym w.value-is ∙ c.if-words-at.true)))
          (λ e. omega (arith, leb-true _ _ e))
          (λ e. omega (arith, leb-false _ _ e)))
      | else-words-at-lt2 w ↦ absurd (true≢false (sym c.if-words-at.true ∙ w.value-is ∙ le-ltb _ _ w.if-words-at-lt2.false))
    ]

pub returns-else-words-at : goal.returns-else-words-at
returns-else-words-at c =
    let at = c.keyboard_at-at.ensures.0 in
    elim c.if-words-at-lt2.branch [
      | then-words-at-lt2 w ↦
          rw (← at, c.if-words-at.false)
          (flags_fail c.args.words.now c.keyboard_at-at.result (omega (arith, flag_limit_is, w.from.ensures, ltb-false _ _ (sym w.value-is ∙ c.if-words-at.false))))
      | else-words-at-lt2 w ↦
          rw (← at, c.if-words-at.false)
          (prefix_fails c.args.words.now c.keyboard_at-at.result (omega (arith, w.if-words-at-lt2.false)))
    ]
