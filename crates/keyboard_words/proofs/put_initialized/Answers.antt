-- `keyboard_words::put_initialized` meets its contract: by how the exchange ended.
use mathlib.Core.Path.{refl, sym, ◌∙◌}
use mathlib.Core.Bool.{true≢false}
use Rattle.keyboard_words.proofs.put_initialized.Goals as goal
use Rattle.keyboard_words.proofs.put_initialized.Goals.{in-Ok, in-Err+in-Lacking, in-Err+in_default}

pub returns-then-not-lacks : goal.returns-then-not-lacks
returns-then-not-lacks c =
    elim c.match-answer.branch [
      | in-Ok w ↦ rw w.in-Ok.is c.put_fresh.ensures
      | in-Err+in-Lacking w ↦ absurd (true≢false (sym w.lacks-is ∙ c.if-not-lacks.true))
      | in-Err+in_default w ↦ rw (w.in-Err.is, w.in_default.is) c.put_fresh.ensures
    ]

pub returns-else-not-lacks : goal.returns-else-not-lacks
returns-else-not-lacks c =
    elim c.match-answer.branch [
      | in-Ok w ↦ absurd (true≢false (sym c.if-not-lacks.false ∙ w.lacks-is))
      | in-Err+in-Lacking w ↦ rw (w.in-Err.is, w.in-Lacking.is) refl
      | in-Err+in_default w ↦ absurd (true≢false (sym c.if-not-lacks.false ∙ w.lacks-is))
    ]
