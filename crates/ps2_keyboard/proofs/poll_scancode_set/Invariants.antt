-- `ps2_keyboard::poll_scancode_set` meets its contract: each turn of the loop is one poll of what is left.
use Rattle.exchange.specs.Answer.{refuses}
use Rattle.exchange.specs.Repeat.{repeat}
use Rattle.ps2_answers.proofs.Reading.{Read}
use Rattle.ps2_bytes.specs.Data.{scancode_sets}
use Rattle.ps2_polling.specs.Polling.{poll}
use Rattle.ps2_command.specs.Search.{listed_turn}
use Rattle.ps2_keyboard.specs.Parts.{set_search}
use Rattle.ps2_keyboard.proofs.poll_scancode_set.Given as goal

abbrev pub invariant-loop-polls : goal.invariant-loop-polls
invariant-loop-polls l = Read set_search l.script (repeat l.polls (refuses 11) (poll (listed_turn scancode_sets))) l.at.used l.at.pairs

abbrev pub decreases-loop-polls : goal.decreases-loop-polls
decreases-loop-polls l = l.polls
