-- `theseus_keycodes::KeyboardModifiers::is_control` meets its contract: it asks for either of two flags.
use Rattle.keyboard_modifiers.proofs.Modifiers.{asks_either}
use Rattle.theseus_keycodes.specs.Flags.{control_left, control_right}
use Rattle.theseus_keycodes.proofs.KeyboardModifiers.is_control.Goals as goal

pub returns : goal.returns
returns c = asks_either control_left control_right _ _ tt tt c.bitor.ensures c.intersects.ensures
