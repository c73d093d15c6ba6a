-- Closed runs of the application, by computation.
use mathlib.Core.List.{[], ◌∷◌, ◌++◌}
use mathlib.Core.Path.{◌≡◌, refl}
use Rattle.bits.specs.Bits.{bit, odd}
use Rattle.bits.specs.Table.{decode}
use Rattle.exchange.specs.Exchange.{bind, yields, played, play}
use Rattle.exchange.specs.Answer.{gives, refuses, and_then, refusing_as}
use Rattle.exchange.specs.Repeat.{repeat}
use Rattle.ps2_answers.specs.Refusals.{success}
use Rattle.ps2_ports.specs.Ports.{write_port}
use Rattle.ps2_polling.specs.Polling.{send_try, polling_send, poll, polling_receive, polling_send_receive}
use Rattle.ps2_command.specs.Command.{attempt, command, command_to_port2}
use Rattle.ps2_command.proofs.Runs.{room, fa}
use Rattle.ps2_keyboard.specs.Keyboard.{command_to_keyboard, set_led_by, set_keyboard_led, command_scancode_set, get_scancode_set, set_scancode_set}
use Rattle.ps2_mouse.specs.Mouse.{command_to_mouse, set_sampling_rate, set_resolution}
use Rattle.preferences.specs.declared.Preferences.TheVariants.{Version1, Version2}
use Rattle.preferences_application.specs.Application.{set_keyboard_repeat, apply_setting, apply_settings, apply_preferences}

-- In order: a record of version 2 on devices that accept every byte, the keyboard telling another set than the one asked for; a mouse that fails at the
-- rate, after which the set stays set and nothing more is sent; a repeat byte of 128, before which nothing is sent.
pub runs :
    (play (apply_preferences (Version2 (record { set = 2; rate = 200; resolution = 0; lamps = 5 }) 43))
    (fa ++ fa ++ fa ++ fa ++ (0x01 ∷ 0x01 ∷ []) ++ fa ++ fa ++ fa ++ fa ++ fa ++ fa ++ fa ++ fa) (room 16)
    ≡ played (yields (gives success)) 38 16
    (0x60 ∷ 0xF0 ∷ 0x60 ∷ 0x02 ∷ 0x60 ∷ 0xF0 ∷ 0x60 ∷ 0x00 ∷ 0x64 ∷ 0xD4 ∷ 0x60 ∷ 0xF3 ∷ 0x64 ∷ 0xD4 ∷ 0x60 ∷ 0xC8
    ∷ 0x64 ∷ 0xD4 ∷ 0x60 ∷ 0xE8 ∷ 0x64 ∷ 0xD4 ∷ 0x60 ∷ 0x00 ∷ 0x60 ∷ 0xED ∷ 0x60 ∷ 0x05 ∷ 0x60 ∷ 0xF3 ∷ 0x60 ∷ 0x2B ∷ []))
    × (play (apply_preferences (Version1 (record { set = 1; rate = 100; resolution = 3; lamps = 7 })))
    (fa ++ fa ++ fa ++ fa ++ (0x01 ∷ 0x01 ∷ 0x00 ∷ 0x01 ∷ 0xFC ∷ [])) (room 6)
    ≡ played (yields (refuses 15)) 17 6 (0x60 ∷ 0xF0 ∷ 0x60 ∷ 0x01 ∷ 0x60 ∷ 0xF0 ∷ 0x60 ∷ 0x00 ∷ 0x64 ∷ 0xD4 ∷ 0x60 ∷ 0xF3 ∷ []))
    × (play (apply_preferences (Version2 (record { set = 1; rate = 100; resolution = 3; lamps = 7 }) 128)) fa (room 1) ≡ played (yields (refuses 28)) 0 0 (0 ∷ 0 ∷ []))
unfolding play bind and_then refusing_as repeat apply_preferences apply_settings apply_setting set_keyboard_repeat set_sampling_rate set_resolution command_to_mouse command_to_port2 write_port set_keyboard_led set_led_by command_to_keyboard command attempt polling_send_receive polling_send send_try polling_receive poll decode bit odd set_scancode_set command_scancode_set get_scancode_set
runs = (refl, refl, refl)
