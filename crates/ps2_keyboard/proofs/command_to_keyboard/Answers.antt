-- `ps2_keyboard::command_to_keyboard` meets its contract: it is the command rule.
use Rattle.ps2_keyboard.specs.Keyboard.{command_to_keyboard}
use Rattle.ps2_keyboard.proofs.command_to_keyboard.Goals as goal

pub returns : goal.returns
unfolding command_to_keyboard
returns c = c.command_by.ensures
