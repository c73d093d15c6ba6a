-- `dispatcher::Dispatcher::end_turn` meets its contract: who was served, and the places. An answer, so that a wrong program is refused by a fact.
use mathlib.Core.Path.{refl}
use Rattle.dispatcher.proofs.Dispatcher.end_turn.Goals as goal

pub returns : goal.returns
returns c = rw c.with_place-self.ensures refl
