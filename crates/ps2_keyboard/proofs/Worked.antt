-- Closed runs of the keyboard's operations, by computation.
use mathlib.Core.List.{[], ◌∷◌, ◌++◌}
use mathlib.Core.Path.{◌≡◌, refl}
use Rattle.bits.specs.Bits.{bit, odd}
use Rattle.bits.specs.Table.{decode}
use Rattle.exchange.specs.Exchange.{p60, bind, no_script, yields, lacks, played, play}
use Rattle.exchange.specs.Answer.{gives, refuses, and_then, refusing_as}
use Rattle.exchange.specs.Repeat.{repeat}
use Rattle.ps2_bytes.specs.declared.data.ScancodeSet.TheVariants.{Set1}
use Rattle.ps2_answers.specs.Refusals.{success}
use Rattle.ps2_polling.specs.Polling.{send_try, polling_send, poll, polling_receive, polling_send_receive}
use Rattle.ps2_command.specs.Command.{attempt, command}
use Rattle.ps2_command.specs.Search.{self_test_within}
use Rattle.ps2_command.proofs.Runs.{room, fa}
use Rattle.ps2_keyboard.specs.Keyboard.{command_to_keyboard, reset_keyboard, set_led_by, set_keyboard_led, command_scancode_set, get_scancode_set, set_scancode_set}

-- In order: the lamp exchange of the third worked position; a failed one; the AA that accepts FF is not the reset's own, and a further one is;
-- a set other than the one asked for.
pub runs :
    (play (set_keyboard_led (record { bits = 4 })) (fa ++ fa) (room 2) ≡ played (yields (gives success)) 6 2 (0x60 ∷ 0xED ∷ 0x60 ∷ 0x04 ∷ []))
    × (play (set_keyboard_led (record { bits = 4 })) (0x00 ∷ 0x01 ∷ 0xFC ∷ []) (room 2) ≡ played (yields (refuses 14)) 3 1 (0x60 ∷ 0xED ∷ 0 ∷ 0 ∷ []))
    × (play reset_keyboard (0x00 ∷ 0x01 ∷ 0xAA ∷ []) (room 1) ≡ played (lacks (no_script p60)) 3 1 (0x60 ∷ 0xFF ∷ []))
    × (play reset_keyboard (0x00 ∷ 0x01 ∷ 0xAA ∷ 0xFA ∷ 0xAA ∷ []) (room 1) ≡ played (yields (gives success)) 5 1 (0x60 ∷ 0xFF ∷ []))
    × (play (set_scancode_set Set1) (fa ++ fa ++ fa ++ fa ++ (0x01 ∷ 0x02 ∷ [])) (room 4)
    ≡ played (yields (gives success)) 14 4 (0x60 ∷ 0xF0 ∷ 0x60 ∷ 0x01 ∷ 0x60 ∷ 0xF0 ∷ 0x60 ∷ 0x00 ∷ []))
unfolding play bind and_then refusing_as repeat set_keyboard_led set_led_by command_to_keyboard command attempt polling_send_receive polling_send send_try polling_receive poll decode bit odd reset_keyboard self_test_within set_scancode_set command_scancode_set get_scancode_set
runs = (refl, refl, refl, refl, refl)
