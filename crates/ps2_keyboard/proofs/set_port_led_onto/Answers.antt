-- `ps2_keyboard::set_port_led_onto` meets its contract: two commands, whose refusals the operation's own replaces.
use Rattle.ps2_command.proofs.Replaced.{refusing_kept}
use Rattle.ps2_keyboard.specs.Keyboard.{set_led_by, set_port_led}
use Rattle.ps2_keyboard.proofs.set_port_led_onto.Goals as goal

pub returns : goal.returns
unfolding set_port_led set_led_by
returns c = rw (c.failing_as.ensures.used, c.failing_as.ensures.pairs) (refusing_kept _ _ _ c.command_pair_onto-c.ensures c.failing_as.ensures.end)
