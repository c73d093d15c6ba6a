-- Keyboard initialisation as a tree of its reads and writes.
use Rattle.exchange.specs.Exchange.{Exchange}
use Rattle.exchange.specs.Answer.{Answer, and_then, refusing_as}
use Rattle.ps2_bytes.specs.declared.data.ScancodeSet.TheVariants.{Set1}
use Rattle.ps2_bytes.specs.declared.response.KeyboardType.{KeyboardType}
use Rattle.ps2_answers.specs.Refusals.{Success}
use Rattle.ps2_keyboard.specs.Keyboard.{set_scancode_set}
use Rattle.ps2_detect.specs.Detection.{keyboard_detect}

-- "Did detection inside keyboard initialisation succeed? 18"
unfoldable pub detection : Exchange (Answer KeyboardType)
detection = refusing_as 18 keyboard_detect

-- "`keyboard_detect`, then `set_keyboard_scancode_set` with set 1." At a table with two keyboards
-- "initialisation still speaks to the first only".
unfoldable pub keyboard_init : Exchange (Answer Success)
keyboard_init = and_then detection (λ _. set_scancode_set Set1)
