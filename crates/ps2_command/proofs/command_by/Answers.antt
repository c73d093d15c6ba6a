-- `ps2_command::command_by` meets its contract: a command onto nothing.
use native.Mathlib.Omega.{arith}
use Rattle.ps2_answers.specs.Answers.{ended}
use Rattle.ps2_kept.proofs.Contracts.{plays_from_nothing, plays_handed}
use Rattle.ps2_command.proofs.Bounds.{within_command_by}
use Rattle.ps2_command.proofs.command_by.Goals as goal

pub returns : goal.returns
returns c =
    let args = c.args in
    plays_from_nothing (within_command_by args.port args.value) (omega arith) c.none_kept-kept.ensures
    (plays_handed (ended c.command_by_onto-answer.result) _ c.after.ensures c.command_by_onto-answer.ensures)
