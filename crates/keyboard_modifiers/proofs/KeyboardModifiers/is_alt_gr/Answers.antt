-- `keyboard_modifiers::KeyboardModifiers::is_alt_gr` meets its contract: it asks for one flag.
use Rattle.keyboard_modifiers.specs.Flags.{alt_right}
use Rattle.keyboard_modifiers.proofs.Modifiers.{asks_one}
use Rattle.keyboard_modifiers.proofs.KeyboardModifiers.is_alt_gr.Goals as goal

pub returns : goal.returns
returns c = asks_one alt_right _ tt c.intersects.ensures
