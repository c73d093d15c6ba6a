-- `theseus_keycodes::KeyboardModifiers::is_super_key` meets its contract: it asks for either of two flags.
use Rattle.keyboard_modifiers.proofs.Modifiers.{asks_either}
use Rattle.theseus_keycodes.specs.Flags.{super_key_left, super_key_right}
use Rattle.theseus_keycodes.proofs.KeyboardModifiers.is_super_key.Goals as goal

pub returns : goal.returns
returns c = asks_either super_key_left super_key_right _ _ tt tt c.bitor.ensures c.intersects.ensures
