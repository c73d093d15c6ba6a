-- `keyboard_words::keyboard_init` meets its contract.
use Rattle.keyboard_words.proofs.Initialized.{at_long}
use Rattle.keyboard_words.proofs.keyboard_init.Goals as goal

pub returns : goal.returns
returns c =
    let a = c.args in
    at_long a.words.now a.keyboards a.profile a.script.now a.log.now c.table_of.ensures c.in-Some.is c.in-Some-as_mut_array.ensures.cases c.keyboard_init-answer.ensures.0 c.put_initialized.ensures c.answer_words.ensures
