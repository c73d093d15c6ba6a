-- `step_first` meets its contract.
use Rattle.std.specs.Prelude.{Some}
use Rattle.questions.proofs.Steps.{first_found, first_again, first_data}
use Rattle.questions.proofs.step_first.Goals as goal

pub returns-in-Found : goal.returns-in-Found
returns-in-Found c = first_found c.args.sought c.args.further c.args.byte (Some c.args.byte) c.in-Found.ensures

pub returns-in-Again : goal.returns-in-Again
returns-in-Again c = first_again c.args.sought c.args.further c.args.byte c.in-Again.ensures c.next_turn.ensures

pub returns-in-Data : goal.returns-in-Data
returns-in-Data c = first_data c.args.sought c.args.further c.args.byte c.in-Data.ensures
