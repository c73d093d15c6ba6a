-- `answered` meets its contract.
use mathlib.Core.Path.{◌∙◌}
use Rattle.ps2_answers.specs.declared.Failure.TheVariants.{InputBufferFull}
use Rattle.ps2_bytes.specs.Responses.{responses}
use Rattle.talks.specs.Commands.{verdict}
use Rattle.talks.proofs.Tables.{reads_through}
use Rattle.talks.proofs.commands.answered.Goals as goal

pub returns-in-Ok : goal.returns-in-Ok
returns-in-Ok c = c.verdict.ensures ∙ reads_through verdict InputBufferFull responses c.args.byte c.try_from.ensures c.in-Ok.is

pub returns-in-Err : goal.returns-in-Err
returns-in-Err c = reads_through verdict InputBufferFull responses c.args.byte c.try_from.ensures c.in-Err.is
