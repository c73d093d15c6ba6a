-- Closed runs of the detection, by computation.
use mathlib.Core.List.{[], ◌∷◌, ◌++◌}
use mathlib.Core.Path.{◌≡◌, refl}
use Rattle.bits.specs.Bits.{bit, odd}
use Rattle.bits.specs.Table.{decode}
use Rattle.exchange.specs.Exchange.{bind, yields, played, play}
use Rattle.exchange.specs.Answer.{gives, refuses, and_then}
use Rattle.exchange.specs.Repeat.{repeat}
use Rattle.ps2_bytes.specs.declared.response.KeyboardType.TheVariants.{MF2Keyboard, MF2KeyboardWithPSControllerTranslator, AncientATKeyboard}
use Rattle.ps2_polling.specs.Polling.{send_try, polling_send, poll, polling_receive, polling_send_receive}
use Rattle.ps2_command.specs.Command.{attempt, command}
use Rattle.ps2_command.proofs.Runs.{room, fa}
use Rattle.ps2_keyboard.specs.Keyboard.{command_to_keyboard}
use Rattle.ps2_detect.specs.Detection.{outer_search, inner_search, type_search, keyboard_detect}

-- In order: AB 83; AB, then the inner search throws 00 away, and 41; AB C1; 00; F4 refused after a type was found.
pub runs :
    (play keyboard_detect (fa ++ fa ++ (0x01 ∷ 0xAB ∷ 0x01 ∷ 0x83 ∷ fa)) (room 3)
    ≡ played (yields (gives MF2Keyboard)) 13 3 (0x60 ∷ 0xF5 ∷ 0x60 ∷ 0xF2 ∷ 0x60 ∷ 0xF4 ∷ []))
    × (play keyboard_detect (fa ++ fa ++ (0x01 ∷ 0xAB ∷ 0x01 ∷ 0x00 ∷ 0x00 ∷ 0x01 ∷ 0x41 ∷ fa)) (room 3)
    ≡ played (yields (gives MF2KeyboardWithPSControllerTranslator)) 16 3 (0x60 ∷ 0xF5 ∷ 0x60 ∷ 0xF2 ∷ 0x60 ∷ 0xF4 ∷ []))
    × (play keyboard_detect (fa ++ fa ++ (0x01 ∷ 0xAB ∷ 0x01 ∷ 0xC1 ∷ fa)) (room 3)
    ≡ played (yields (gives MF2KeyboardWithPSControllerTranslator)) 13 3 (0x60 ∷ 0xF5 ∷ 0x60 ∷ 0xF2 ∷ 0x60 ∷ 0xF4 ∷ []))
    × (play keyboard_detect (fa ++ fa ++ (0x01 ∷ 0x00 ∷ fa)) (room 3)
    ≡ played (yields (gives AncientATKeyboard)) 11 3 (0x60 ∷ 0xF5 ∷ 0x60 ∷ 0xF2 ∷ 0x60 ∷ 0xF4 ∷ []))
    × (play keyboard_detect (fa ++ fa ++ (0x01 ∷ 0x00 ∷ 0x00 ∷ 0x01 ∷ 0xFC ∷ [])) (room 3)
    ≡ played (yields (refuses 6)) 11 3 (0x60 ∷ 0xF5 ∷ 0x60 ∷ 0xF2 ∷ 0x60 ∷ 0xF4 ∷ []))
unfolding play bind and_then repeat command_to_keyboard command attempt polling_send_receive polling_send send_try polling_receive poll decode bit odd keyboard_detect type_search outer_search inner_search
runs = (refl, refl, refl, refl, refl)
