-- `ps2_keyboard::set_keyboard_led` meets its contract: a lamp exchange onto nothing.
use native.Mathlib.Omega.{arith}
use Rattle.ps2_kept.proofs.Contracts.{plays_from_nothing}
use Rattle.ps2_keyboard.specs.Keyboard.{command_to_keyboard, set_led_by, set_keyboard_led, set_port_led}
use Rattle.ps2_keyboard.proofs.Bounds.{most_set_keyboard_led}
use Rattle.ps2_keyboard.proofs.set_keyboard_led.Goals as goal

-- both bytes were acknowledged, and nothing was thrown away
pub returns-in-Some : goal.returns-in-Some
unfolding set_keyboard_led set_port_led set_led_by command_to_keyboard
returns-in-Some c =
    plays_from_nothing (most_set_keyboard_led _).within (omega arith) c.none_kept.ensures (c.set_port_led_acknowledged.ensures.plays _ c.in-Some.is _)

pub returns : goal.returns
unfolding set_keyboard_led set_port_led set_led_by command_to_keyboard
returns c =
    plays_from_nothing (most_set_keyboard_led _).within (omega arith) c.none_kept-2.ensures
    (rw (c.set_port_led_acknowledged.ensures.undone c.in_default.is) at c.set_port_led_onto.ensures)
