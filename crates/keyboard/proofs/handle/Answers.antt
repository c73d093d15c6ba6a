-- `keyboard::handle` meets its contract: the call in place, on the record that was passed in. An answer, so that a wrong program is refused by a fact.
use Rattle.keyboard.proofs.handle.Goals as goal

pub returns : goal.returns
returns c = c.handle_in_place-call.ensures
