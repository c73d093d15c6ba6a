-- `is_response` meets its contract.
use Rattle.questions.proofs.Steps.{response_came}
use Rattle.questions.proofs.is_response.Goals as goal

pub returns-in-Ok : goal.returns-in-Ok
returns-in-Ok c = response_came c.args.byte c.try_from.ensures c.in-Ok.is

pub returns-in-Err : goal.returns-in-Err
returns-in-Err c = response_came c.args.byte c.try_from.ensures c.in-Err.is
