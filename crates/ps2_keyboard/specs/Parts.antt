-- A part of the keyboard's operations that is a function of its own in the code.
use Rattle.exchange.specs.Exchange.{Exchange}
use Rattle.exchange.specs.Answer.{Answer, refuses}
use Rattle.exchange.specs.Repeat.{repeat}
use Rattle.ps2_bytes.specs.declared.data.ScancodeSet.{ScancodeSet}
use Rattle.ps2_bytes.specs.Data.{scancode_sets}
use Rattle.ps2_polling.specs.Polling.{poll_limit, poll}
use Rattle.ps2_command.specs.Search.{listed_turn}

-- "polls for a byte 0 to 3"
abbrev pub set_search : Exchange (Answer ScancodeSet)
set_search = repeat poll_limit (refuses 11) (poll (listed_turn scancode_sets))
