-- `dispatcher_words::dispatcher_fresh` meets its contract.
use Rattle.dispatcher_words.proofs.Fresh.{at_no_table, at_fresh}
use Rattle.dispatcher_words.proofs.dispatcher_fresh.Goals as goal

pub returns-then-answer-eq0 : goal.returns-then-answer-eq0
returns-then-answer-eq0 c =
    at_fresh c.identity_of.ensures c.in-Some.is c.in-Some-as_mut_array.ensures.cases c.fresh_words-answer.ensures c.if-answer-eq0.true c.fresh_words-answer.auto.words c.put_unserved.ensures

pub returns-else-answer-eq0 : goal.returns-else-answer-eq0
returns-else-answer-eq0 c =
    at_no_table c.identity_of.ensures c.in-Some.is c.in-Some-as_mut_array.ensures.cases c.fresh_words-answer.ensures c.if-answer-eq0.false
