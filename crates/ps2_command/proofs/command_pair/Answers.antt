-- `ps2_command::command_pair` meets its contract: two commands onto nothing.
use native.Mathlib.Omega.{arith}
use Rattle.exchange.proofs.Then.{within_then}
use Rattle.ps2_kept.proofs.Contracts.{plays_from_nothing}
use Rattle.ps2_command.proofs.Bounds.{within_command_by}
use Rattle.ps2_command.proofs.command_pair.Goals as goal

pub returns : goal.returns
returns c =
    let args = c.args in
    plays_from_nothing (within_then (within_command_by args.port args.first) (λ _. within_command_by args.port args.second)) (omega arith)
    c.none_kept.ensures c.command_pair_onto.ensures
