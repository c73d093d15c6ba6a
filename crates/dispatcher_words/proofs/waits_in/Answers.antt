-- `dispatcher_words::waits_in` meets its contract.
use Rattle.dispatcher_words.proofs.Waits.{waits_words}
use Rattle.dispatcher_words.proofs.waits_in.Goals as goal

pub returns : goal.returns
returns c =
    waits_words _ _ c.place_in-one.ensures c.place_in-two.ensures c.place_in-three.ensures c.identity_in-id.ensures c.keyboard_waits.ensures (rw c.second_waiting.ensures at c.keyboard_waits-2.ensures) c.mouse_waits.ensures
