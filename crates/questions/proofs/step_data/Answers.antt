-- `step_data` meets its contract.
use Rattle.questions.proofs.Steps.{second_found, second_again}
use Rattle.questions.proofs.step_data.Goals as goal

pub returns-then-is_met : goal.returns-then-is_met
returns-then-is_met c = second_found c.args.sought c.args.further c.args.byte c.if-is_met.ensures

pub returns-else-is_met : goal.returns-else-is_met
returns-else-is_met c = second_again c.args.sought c.args.further c.args.byte c.if-is_met.ensures c.next_turn.ensures
