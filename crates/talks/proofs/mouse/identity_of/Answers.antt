-- `identity_of` meets its contract.
use Rattle.ps2_answers.specs.declared.Failure.TheVariants.{NoSetOrIdentity}
use Rattle.ps2_bytes.specs.Responses.{mouse_ids}
use Rattle.talks.proofs.Tables.{reads}
use Rattle.talks.proofs.mouse.identity_of.Goals as goal

pub returns-in-Ok : goal.returns-in-Ok
returns-in-Ok c = reads NoSetOrIdentity mouse_ids c.args.byte c.try_from.ensures c.in-Ok.is

pub returns-in-Err : goal.returns-in-Err
returns-in-Err c = reads NoSetOrIdentity mouse_ids c.args.byte c.try_from.ensures c.in-Err.is
