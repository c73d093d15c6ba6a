-- The detection of a keyboard's type as a tree of its reads and writes.
use Rattle.std.specs.Prelude.{cond, List, [], ◌∷◌, ℕ, eqb}
use Rattle.exchange.specs.Exchange.{Exchange, done, bind}
use Rattle.exchange.specs.Answer.{Answer, gives, refuses, and_then}
use Rattle.exchange.specs.Repeat.{Turn, found, again, repeat}
use Rattle.ps2_bytes.specs.declared.command.HostToKeyboardCommand.TheVariants as Command
use Rattle.ps2_bytes.specs.declared.response.KeyboardType.{KeyboardType}
use Rattle.ps2_bytes.specs.declared.response.KeyboardType.TheVariants.{MF2Keyboard, MF2KeyboardWithPSControllerTranslator, AncientATKeyboard}
use Rattle.ps2_polling.specs.Polling.{poll_limit, poll}
use Rattle.ps2_command.specs.Search.{listed_turn}
use Rattle.ps2_keyboard.specs.Keyboard.{keyboard_command}

-- What the outer search of a detection comes to: no byte of meaning, 00 or AB.
pub data FirstByte : Type 0 where
  none : FirstByte
  came00 : FirstByte
  came_ab : FirstByte

abbrev pub first_turn : ℕ → Turn FirstByte
first_turn b = cond (eqb b 0x00) (found came00) (cond (eqb b 0xAB) (found came_ab) again)

unfoldable pub outer_search : Exchange FirstByte
outer_search = repeat poll_limit none (poll first_turn)

-- "41 or C1 translated, 83 plain"
abbrev pub second_bytes : List (ℕ × KeyboardType)
second_bytes =
    (0x41, MF2KeyboardWithPSControllerTranslator) ∷ (0xC1, MF2KeyboardWithPSControllerTranslator)
    ∷ (0x83, MF2Keyboard) ∷ []

-- "Did `keyboard_detect` recognise a type? 12" 00 is the ancient type; AB starts the inner search,
-- which ends the outer one too, found or not.
unfoldable pub inner_search : Exchange (Answer KeyboardType)
inner_search = repeat poll_limit (refuses 12) (poll (listed_turn second_bytes))

abbrev pub type_after : FirstByte → Exchange (Answer KeyboardType)
type_after none = done (refuses 12)
type_after came00 = done (gives AncientATKeyboard)
type_after came_ab = inner_search

unfoldable pub type_search : Exchange (Answer KeyboardType)
type_search = bind outer_search (λ first. type_after first)

-- "F5, F2, up to 65,535 polls .. Then F4, whose failure outweighs the type."
unfoldable pub keyboard_detect : Exchange (Answer KeyboardType)
keyboard_detect =
    and_then (keyboard_command Command.DisableScanning)
    (λ _. and_then (keyboard_command Command.IdentifyKeyboard)
    (λ _. bind type_search (λ type.
    and_then (keyboard_command Command.EnableScanning) (λ _. done type))))
