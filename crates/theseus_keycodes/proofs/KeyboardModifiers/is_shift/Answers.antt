-- `theseus_keycodes::KeyboardModifiers::is_shift` meets its contract: it asks for either of two flags.
use Rattle.keyboard_modifiers.proofs.Modifiers.{asks_either}
use Rattle.theseus_keycodes.specs.Flags.{shift_left, shift_right}
use Rattle.theseus_keycodes.proofs.KeyboardModifiers.is_shift.Goals as goal

pub returns : goal.returns
returns c = asks_either shift_left shift_right _ _ tt tt c.bitor.ensures c.intersects.ensures
