-- `keyboard_modifiers::KeyboardModifiers::is_scroll_lock` meets its contract: it asks for one flag.
use Rattle.keyboard_modifiers.specs.Flags.{scroll_lock}
use Rattle.keyboard_modifiers.proofs.Modifiers.{asks_one}
use Rattle.keyboard_modifiers.proofs.KeyboardModifiers.is_scroll_lock.Goals as goal

pub returns : goal.returns
returns c = asks_one scroll_lock _ tt c.intersects.ensures
