-- The text is none of those that were asked for.
use Rattle.theseus_calls.proofs.Texts.{another}
use Rattle.theseus_calls.proofs.answers.number_of.Goals as goal

pub returns-else-eq-12 : goal.returns-else-eq-12
returns-else-eq-12 c =
    rw (
      another _ _ c.if-eq.ensures,
      another _ _ c.if-eq-2.ensures,
      another _ _ c.if-eq-3.ensures,
      another _ _ c.if-eq-4.ensures,
      another _ _ c.if-eq-5.ensures,
      another _ _ c.if-eq-6.ensures,
      another _ _ c.if-eq-7.ensures,
      another _ _ c.if-eq-8.ensures,
      another _ _ c.if-eq-9.ensures,
      another _ _ c.if-eq-10.ensures,
      another _ _ c.if-eq-11.ensures,
      another _ _ c.if-eq-12.ensures,
    ) c.later_number_of.ensures
