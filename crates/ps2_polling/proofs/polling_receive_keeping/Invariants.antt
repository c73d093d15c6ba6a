-- `polling_receive_keeping` meets its contract: the invariant is how far the definition's repetition has come, with the bytes kept so far; a poll is one turn of it.
use Rattle.exchange.specs.Answer.{refuses}
use Rattle.exchange.specs.Repeat.{repeat}
use Rattle.ps2_answers.proofs.Reading.{Read}
use Rattle.ps2_kept.specs.Added.{keeping_onto}
use Rattle.ps2_polling.specs.Polling.{poll, response_turn, polling_receive}
use Rattle.ps2_polling.proofs.polling_receive_keeping.Given as goal

abbrev pub invariant-loop-polls : goal.invariant-loop-polls
invariant-loop-polls l =
    Read (keeping_onto l.initial.kept polling_receive) l.script (keeping_onto l.kept (repeat l.polls (refuses 5) (poll response_turn))) l.at.used l.at.pairs

abbrev pub decreases-loop-polls : goal.decreases-loop-polls
decreases-loop-polls l = l.polls
