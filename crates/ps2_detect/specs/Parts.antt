-- Parts of the detection that are functions of their own in the code.
use Rattle.exchange.specs.Exchange.{Exchange, done, bind}
use Rattle.exchange.specs.Answer.{Answer, and_then}
use Rattle.ps2_bytes.specs.declared.command.HostToKeyboardCommand.TheVariants.{EnableScanning}
use Rattle.ps2_bytes.specs.declared.response.KeyboardType.{KeyboardType}
use Rattle.ps2_keyboard.specs.Keyboard.{keyboard_command}
use Rattle.ps2_detect.specs.Detection.{type_search}

-- "Then F4, whose failure outweighs the type."
abbrev pub enabled_after : Answer KeyboardType → Exchange (Answer KeyboardType)
enabled_after type = and_then (keyboard_command EnableScanning) (λ _. done type)

-- What follows F5 and F2 in a detection.
abbrev pub identification : Exchange (Answer KeyboardType)
identification = bind type_search (λ type. enabled_after type)
