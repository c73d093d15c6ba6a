-- `theseus_keycodes::KeyboardModifiers::is_alt` meets its contract: it asks for one flag.
use Rattle.keyboard_modifiers.proofs.Modifiers.{asks_one}
use Rattle.theseus_keycodes.specs.Flags.{alt}
use Rattle.theseus_keycodes.proofs.KeyboardModifiers.is_alt.Goals as goal

pub returns : goal.returns
returns c = asks_one alt _ tt c.intersects.ensures
