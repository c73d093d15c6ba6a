-- `theseus_keycodes::KeyboardModifiers::is_caps_lock` meets its contract: it asks for one flag.
use Rattle.keyboard_modifiers.proofs.Modifiers.{asks_one}
use Rattle.theseus_keycodes.specs.Flags.{caps_lock}
use Rattle.theseus_keycodes.proofs.KeyboardModifiers.is_caps_lock.Goals as goal

pub returns : goal.returns
returns c = asks_one caps_lock _ tt c.intersects.ensures
