-- `handler_words::sides_pass` meets its contract: the first side's numbers, the profile, then by how many keyboards there are.
use mathlib.Core.Path.{sym, ◌∙◌}
use mathlib.Core.Bool.{true≢false}
use native.Mathlib.Omega.{arith}
use borrow.Author.Tests.{ltb-true, ltb-false}
use Rattle.handler_words.proofs.Passing.{first_fails, profile_fails, one_passes, two_asked, no_number}
use Rattle.handler_words.proofs.sides_pass.Goals as goal
use Rattle.handler_words.proofs.sides_pass.Goals.{then-keyboard_passes, else-keyboard_passes}

pub returns-in-1 : goal.returns-in-1
returns-in-1 c =
    elim c.if-keyboard_passes.branch [
      | then-keyboard_passes w ↦
          one_passes c.args.words.now (sym c.keyboard_passes.ensures ∙ w.if-keyboard_passes.true)
          (omega (arith, ltb-true _ _ (sym w.value-is ∙ c.if-words-lt2.true)))
          (omega (arith, c.in-1.is))
      | else-keyboard_passes w ↦ absurd (true≢false (sym c.if-words-lt2.true ∙ w.value-is ∙ w.if-keyboard_passes.false))
    ]

pub returns-in-2 : goal.returns-in-2
returns-in-2 c =
    elim c.if-keyboard_passes.branch [
      | then-keyboard_passes w ↦
          c.keyboard_passes-in-2.ensures
          ∙ two_asked c.args.words.now (sym c.keyboard_passes.ensures ∙ w.if-keyboard_passes.true)
          (omega (arith, ltb-true _ _ (sym w.value-is ∙ c.if-words-lt2.true)))
          (omega (arith, c.in-2.is))
      | else-keyboard_passes w ↦ absurd (true≢false (sym c.if-words-lt2.true ∙ w.value-is ∙ w.if-keyboard_passes.false))
    ]

pub returns-in_default : goal.returns-in_default
returns-in_default c =
    elim c.if-keyboard_passes.branch [
      | then-keyboard_passes w ↦
          no_number c.args.words.now (sym c.keyboard_passes.ensures ∙ w.if-keyboard_passes.true)
          (omega (arith, ltb-true _ _ (sym w.value-is ∙ c.if-words-lt2.true)))
          (λ e. omega (arith, e, c.in_default))
          (λ e. omega (arith, e, c.in_default))
      | else-keyboard_passes w ↦ absurd (true≢false (sym c.if-words-lt2.true ∙ w.value-is ∙ w.if-keyboard_passes.false))
    ]

pub returns-else-words-lt2 : goal.returns-else-words-lt2
returns-else-words-lt2 c =
    elim c.if-keyboard_passes.branch [
      | then-keyboard_passes w ↦
          rw c.if-words-lt2.false
          (profile_fails c.args.words.now (omega (arith, ltb-false _ _ (sym w.value-is ∙ c.if-words-lt2.false))))
      | else-keyboard_passes w ↦
          rw c.if-words-lt2.false (first_fails c.args.words.now (sym c.keyboard_passes.ensures ∙ w.if-keyboard_passes.false))
    ]
