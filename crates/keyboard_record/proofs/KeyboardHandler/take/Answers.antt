-- `keyboard_record::KeyboardHandler::take` meets its contract: the oldest event, and the record without it.
-- Kept: without it wrong programs are refused at a limit, and not by a fact.
use mathlib.Core.Path.{ap, ◌≡◌, sym, ◌∙◌}
use mathlib.Core.Bool.{not, true}
use borrow.Author.Tests.{ne_eqb, not-false}
use Rattle.keyboard_record.specs.Record.{well_formed}
use Rattle.keyboard_record.proofs.Taking.{taken_one}
use Rattle.keyboard_record.proofs.KeyboardHandler.take.Goals as goal

pub returns : goal.returns
returns c =
    let w : well_formed c.args.self.now.state ≡ true = sym c.well_formed-2.ensures ∙ not-false _ (ap not c.if-not-well_formed.false) in
    rw (c.oldest.ensures, c.without_oldest-self.ensures) (sym (taken_one _ w (ne_eqb _ 0 c.if-self-eq0.false)))
