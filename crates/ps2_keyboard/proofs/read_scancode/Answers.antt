-- `ps2_keyboard::read_scancode` meets its contract: it is one read of data.
use Rattle.ps2_keyboard.specs.Keyboard.{read_scancode}
use Rattle.ps2_keyboard.proofs.read_scancode.Goals as goal

pub returns : goal.returns
unfolding read_scancode
returns c = c.read_data.ensures
