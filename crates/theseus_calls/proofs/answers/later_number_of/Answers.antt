-- The panic is the third text. At the end the text is none of those that were asked for.
use mathlib.Core.Path.{refl}
use Rattle.theseus_calls.proofs.Texts.{another, same}
use Rattle.theseus_calls.proofs.answers.later_number_of.Goals as goal

pub returns-then-eq-3 : goal.returns-then-eq-3
returns-then-eq-3 c =
    rw (
      another _ _ c.if-eq.ensures,
      another _ _ c.if-eq-2.ensures,
      same _ _ c.if-eq-3.ensures,
    ) refl

pub returns-else-eq-11 : goal.returns-else-eq-11
returns-else-eq-11 c =
    rw (
      another _ _ c.if-eq.ensures,
      another _ _ c.if-eq-2.ensures,
      another _ _ c.if-eq-3.ensures,
      another _ _ c.if-eq-4.ensures,
      another _ _ c.if-eq-5.ensures,
      another _ _ c.if-eq-6.ensures,
      another _ _ c.if-eq-7.ensures,
      another _ _ c.if-eq-8.ensures,
      another _ _ c.if-eq-9.ensures,
      another _ _ c.if-eq-10.ensures,
      another _ _ c.if-eq-11.ensures,
    ) refl
