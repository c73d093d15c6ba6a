-- `dispatcher_words::second_waiting` meets its contract.
use Rattle.dispatcher_words.proofs.Waits.{two_waiting, one_waiting}
use Rattle.dispatcher_words.proofs.second_waiting.Goals as goal

pub returns-then-words-eq2 : goal.returns-then-words-eq2
returns-then-words-eq2 c = two_waiting c.args.words.now c.if-words-eq2.true

pub returns-else-words-eq2 : goal.returns-else-words-eq2
returns-else-words-eq2 c = one_waiting c.args.words.now c.if-words-eq2.false
