-- `theseus_keycodes::KeyboardModifiers::is_num_lock` meets its contract: it asks for one flag.
use Rattle.keyboard_modifiers.proofs.Modifiers.{asks_one}
use Rattle.theseus_keycodes.specs.Flags.{num_lock}
use Rattle.theseus_keycodes.proofs.KeyboardModifiers.is_num_lock.Goals as goal

pub returns : goal.returns
returns c = asks_one num_lock _ tt c.intersects.ensures
