-- `next_try` meets its contract.
use native.Mathlib.Omega.{arith}
use Rattle.std.proofs.Common.{◌-◌}
use Rattle.questions.proofs.Steps.{tries_end, tries_on}
use Rattle.questions.proofs.next_try.Goals as goal

pub returns-then-further-eq0 : goal.returns-then-further-eq0
returns-then-further-eq0 c = tries_end c.args.value c.args.further (omega arith)

pub returns : goal.returns
returns c = tries_on c.args.value c.args.further (c.args.further - 1) (omega arith)
