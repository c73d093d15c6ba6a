-- `receive_mouse_id` meets its contract: each turn of the loop is one poll on what is left.
use Rattle.exchange.specs.Answer.{Answer, refuses}
use Rattle.exchange.specs.Exchange.{Exchange}
use Rattle.exchange.specs.Repeat.{Turn, repeat}
use Rattle.ps2_bytes.specs.declared.response.MouseId.{MouseId}
use Rattle.ps2_bytes.specs.Responses.{mouse_ids}
use Rattle.ps2_answers.proofs.Reading.{Read}
use Rattle.ps2_polling.specs.Polling.{poll_limit}
use Rattle.ps2_command.specs.Search.{poll_when, listed_turn}
use Rattle.ps2_mouse.specs.Mouse.{mouse_byte_waits}
use Rattle.ps2_mouse.proofs.receive_mouse_id.Given as goal

abbrev pub id_poll : Exchange (Turn (Answer MouseId))
id_poll = poll_when mouse_byte_waits (listed_turn mouse_ids)

abbrev pub invariant-loop-polls : goal.invariant-loop-polls
invariant-loop-polls l = Read (repeat poll_limit (refuses 11) id_poll) l.script (repeat l.polls (refuses 11) id_poll) l.at.used l.at.pairs

abbrev pub decreases-loop-polls : goal.decreases-loop-polls
decreases-loop-polls l = l.polls
