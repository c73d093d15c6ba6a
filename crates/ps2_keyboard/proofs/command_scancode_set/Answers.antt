-- `ps2_keyboard::command_scancode_set` meets its contract: the keyboard is on the first port.
use Rattle.ps2_kept.proofs.Contracts.{plays_forgets}
use Rattle.ps2_keyboard.specs.Keyboard.{command_to_keyboard, command_scancode_set}
use Rattle.ps2_keyboard.proofs.command_scancode_set.Goals as goal

pub returns : goal.returns
unfolding command_scancode_set command_to_keyboard
returns c = plays_forgets _ c.command_pair.ensures
