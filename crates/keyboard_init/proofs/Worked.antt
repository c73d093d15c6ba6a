-- Closed runs of keyboard initialisation, by computation.
use mathlib.Core.List.{[], ◌∷◌, ◌++◌}
use mathlib.Core.Path.{◌≡◌, refl}
use Rattle.bits.specs.Bits.{bit, odd}
use Rattle.bits.specs.Table.{decode}
use Rattle.exchange.specs.Exchange.{bind, yields, played, play}
use Rattle.exchange.specs.Answer.{gives, refuses, and_then, refusing_as}
use Rattle.exchange.specs.Repeat.{repeat}
use Rattle.ps2_answers.specs.Refusals.{success}
use Rattle.ps2_polling.specs.Polling.{send_try, polling_send, poll, polling_receive, polling_send_receive}
use Rattle.ps2_command.specs.Command.{attempt, command}
use Rattle.ps2_command.proofs.Runs.{room, fa}
use Rattle.ps2_keyboard.specs.Keyboard.{command_to_keyboard, command_scancode_set, get_scancode_set, set_scancode_set}
use Rattle.ps2_detect.specs.Detection.{outer_search, inner_search, type_search, keyboard_detect}
use Rattle.keyboard_init.specs.KeyboardInit.{detection, keyboard_init}

-- In order: a keyboard of type AB 83 in set 1; one that fails its self test at F5, which is 18; one that does so at F0, which is 6.
pub runs :
    (play keyboard_init (fa ++ fa ++ (0x01 ∷ 0xAB ∷ 0x01 ∷ 0x83 ∷ fa) ++ fa ++ fa ++ fa ++ fa ++ (0x01 ∷ 0x01 ∷ [])) (room 7)
    ≡ played (yields (gives success)) 27 7
    (0x60 ∷ 0xF5 ∷ 0x60 ∷ 0xF2 ∷ 0x60 ∷ 0xF4 ∷ 0x60 ∷ 0xF0 ∷ 0x60 ∷ 0x01 ∷ 0x60 ∷ 0xF0 ∷ 0x60 ∷ 0x00 ∷ []))
    × (play keyboard_init (0x00 ∷ 0x01 ∷ 0xFC ∷ []) (room 1) ≡ played (yields (refuses 18)) 3 1 (0x60 ∷ 0xF5 ∷ []))
    × (play keyboard_init (fa ++ fa ++ (0x01 ∷ 0x00 ∷ fa) ++ (0x00 ∷ 0x01 ∷ 0xFC ∷ [])) (room 4)
    ≡ played (yields (refuses 6)) 14 4 (0x60 ∷ 0xF5 ∷ 0x60 ∷ 0xF2 ∷ 0x60 ∷ 0xF4 ∷ 0x60 ∷ 0xF0 ∷ []))
unfolding play bind and_then refusing_as repeat keyboard_init detection command_to_keyboard command attempt polling_send_receive polling_send send_try polling_receive poll decode bit odd set_scancode_set command_scancode_set get_scancode_set keyboard_detect type_search outer_search inner_search
runs = (refl, refl, refl)
