-- `preferences_application::set_keyboard_repeat` meets its contract: the keyboard is on the first port, and what was thrown away is dropped.
use Rattle.ps2_kept.proofs.Contracts.{plays_forgets}
use Rattle.ps2_keyboard.specs.Keyboard.{command_to_keyboard}
use Rattle.preferences_application.specs.Application.{set_keyboard_repeat}
use Rattle.preferences_application.proofs.set_keyboard_repeat.Goals as goal

pub returns : goal.returns
unfolding set_keyboard_repeat command_to_keyboard
returns c = plays_forgets _ c.command_pair.ensures
