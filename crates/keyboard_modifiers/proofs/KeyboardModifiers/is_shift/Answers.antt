-- `keyboard_modifiers::KeyboardModifiers::is_shift` meets its contract: it asks for either of two flags.
use Rattle.keyboard_modifiers.specs.Flags.{shift_left, shift_right}
use Rattle.keyboard_modifiers.proofs.Modifiers.{asks_either}
use Rattle.keyboard_modifiers.proofs.KeyboardModifiers.is_shift.Goals as goal

pub returns : goal.returns
returns c = asks_either shift_left shift_right _ _ tt tt c.insert.ensures c.intersects.ensures
