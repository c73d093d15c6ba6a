-- `ps2_detect::poll_keyboard_type` meets its contract: each turn of a loop is one poll of what is left, of the outer search or of the inner one.
use Rattle.exchange.specs.Exchange.{bind}
use Rattle.exchange.specs.Answer.{refuses}
use Rattle.exchange.specs.Repeat.{repeat}
use Rattle.ps2_answers.proofs.Reading.{Read}
use Rattle.ps2_polling.specs.Polling.{poll}
use Rattle.ps2_command.specs.Search.{listed_turn}
use Rattle.ps2_detect.specs.Detection.{none, first_turn, second_bytes, type_after, type_search}
use Rattle.ps2_detect.proofs.poll_keyboard_type.Given as goal

-- the inner search, which AB starts
abbrev pub invariant-loop-inner_polls : goal.invariant-loop-inner_polls
invariant-loop-inner_polls l = Read type_search l.script (repeat l.inner_polls (refuses 12) (poll (listed_turn second_bytes))) l.at.used l.at.pairs

abbrev pub decreases-loop-inner_polls : goal.decreases-loop-inner_polls
decreases-loop-inner_polls l = l.inner_polls

-- the outer search
abbrev pub invariant-outer : goal.invariant-outer
invariant-outer l = Read type_search l.script (bind (repeat l.polls none (poll first_turn)) (λ first. type_after first)) l.at.used l.at.pairs

abbrev pub decreases-outer : goal.decreases-outer
decreases-outer l = l.polls
