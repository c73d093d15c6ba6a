-- `step_sending` meets its contract.
use mathlib.Core.Bool.{true, false}
use mathlib.Core.Path.{◌∙◌}
use Rattle.questions.proofs.Steps.{sending}
use Rattle.questions.proofs.step_sending.Goals as goal

pub returns-then-is_full : goal.returns-then-is_full
returns-then-is_full c = sending c.args.value c.args.further c.args.status true c.if-is_full.ensures ∙ c.next_try.ensures

pub returns-else-is_full : goal.returns-else-is_full
returns-else-is_full c = sending c.args.value c.args.further c.args.status false c.if-is_full.ensures
