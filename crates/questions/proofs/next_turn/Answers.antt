-- `next_turn` meets its contract.
use native.Mathlib.Omega.{arith}
use Rattle.std.proofs.Common.{◌-◌}
use Rattle.questions.proofs.Steps.{turns_end, turns_on}
use Rattle.questions.proofs.next_turn.Goals as goal

pub returns-then-further-eq0 : goal.returns-then-further-eq0
returns-then-further-eq0 c = turns_end c.args.sought c.args.further (omega arith)

pub returns : goal.returns
returns c = turns_on c.args.sought c.args.further (c.args.further - 1) (omega arith)
