-- `theseus_keycodes::KeyboardModifiers::is_alt_gr` meets its contract: it asks for one flag.
use Rattle.keyboard_modifiers.proofs.Modifiers.{asks_one}
use Rattle.theseus_keycodes.specs.Flags.{alt_gr}
use Rattle.theseus_keycodes.proofs.KeyboardModifiers.is_alt_gr.Goals as goal

pub returns : goal.returns
returns c = asks_one alt_gr _ tt c.intersects.ensures
