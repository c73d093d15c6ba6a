-- `keyboard_modifiers::KeyboardModifiers::is_alt` meets its contract: it asks for one flag.
use Rattle.keyboard_modifiers.specs.Flags.{alt}
use Rattle.keyboard_modifiers.proofs.Modifiers.{asks_one}
use Rattle.keyboard_modifiers.proofs.KeyboardModifiers.is_alt.Goals as goal

pub returns : goal.returns
returns c = asks_one alt _ tt c.intersects.ensures
