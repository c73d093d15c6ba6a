-- `handler_words::records::event_in` meets its contract.
use mathlib.Core.Path.{refl}
use Rattle.handler_words.specs.Words.{event_at}
use Rattle.handler_words.proofs.records.event_in.Goals as goal

pub returns : goal.returns
unfolding event_at
returns c = rw (c.keycode_of.ensures, c.action_of.ensures) refl
