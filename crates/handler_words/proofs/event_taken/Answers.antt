-- `handler_words::event_taken` meets its contract.
use Rattle.handler_words.specs.Words.{event_at}
use Rattle.handler_words.proofs.Events.{action_weighed}
use Rattle.handler_words.proofs.event_taken.Goals as goal

pub returns : goal.returns
unfolding event_at
returns c = rw (c.side_number.ensures, c.keycode_in.ensures, c.from.ensures, action_weighed c.args.word)
