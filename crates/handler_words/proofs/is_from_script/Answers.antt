-- `handler_words::is_from_script` meets its contract: each part is asked in turn.
use mathlib.Core.Path.{sym, ap, ◌∙◌}
use mathlib.Core.Bool.{not, true≢false}
use Prim.Native.Nat.{ℕ, ◌+◌}
use native.Mathlib.Omega.{arith}
use lib.ListN.{get_or}
use borrow.Author.Tests.{eqb-true, eqb-false}
use Rattle.handler_words.specs.Parts.{FromScript}
use Rattle.handler_words.proofs.Alone.{says_no}
use Rattle.handler_words.proofs.is_from_script.Goals as goal
use Rattle.handler_words.proofs.is_from_script.Goals.{then-not-is_empty, else-not-is_empty}

pub returns-then-words-eq0 : goal.returns-then-words-eq0
returns-then-words-eq0 c =
    let a = c.args in
    let waits = ap (λ (n : ℕ). get_or a.words.now (n + 2) 0) (sym c.keyboard_at.ensures.0) in
    elim c.if-not-is_empty.branch [
      | then-not-is_empty w ↦
          record {
            is_so = λ e.
                record {
                  none_waits = waits ∙ eqb-true _ 0 e;
                  some_byte = omega (arith, eqb-false _ 0 (sym c.is_empty.ensures ∙ w.if-not-is_empty.true));
                  any_key = eqb-true _ 0 (sym w.value-is ∙ c.if-words-eq0.true);
                };
            is_not = λ e f. eqb-false _ 0 e (sym waits ∙ f.none_waits);
          }
      | else-not-is_empty w ↦ absurd (true≢false (sym c.if-words-eq0.true ∙ w.value-is ∙ ap not w.if-not-is_empty.false))
    ]

pub returns-else-words-eq0 : goal.returns-else-words-eq0
returns-else-words-eq0 c =
    let a = c.args in
    let asked : FromScript a.side a.words.now a.script.now → ⊥ = λ p.
    elim c.if-not-is_empty.branch [
      | then-not-is_empty w ↦ absurd (eqb-false _ 0 (sym w.value-is ∙ c.if-words-eq0.false) p.any_key)
      | else-not-is_empty w ↦ absurd (omega (arith, p.some_byte, eqb-true _ 0 (sym c.is_empty.ensures ∙ w.if-not-is_empty.false)))
    ]
    in
    rw c.if-words-eq0.false (says_no asked)
