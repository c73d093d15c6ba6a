-- `is_unlisted` meets its contract.
use Rattle.step_words.proofs.Keeps.{unlisted_read}
use Rattle.step_words.proofs.steps.is_unlisted.Goals as goal

pub returns-in-Ok : goal.returns-in-Ok
returns-in-Ok c = unlisted_read c.args.byte c.try_from.ensures c.in-Ok.is

pub returns-in-Err : goal.returns-in-Err
returns-in-Err c = unlisted_read c.args.byte c.try_from.ensures c.in-Err.is
