-- `ps2_command::command_pair_keeping` meets its contract: two commands, the second on what the first left, with the bytes that it kept.
use native.Mathlib.Omega.{arith}
use Rattle.exchange.proofs.Counts.{counts}
use Rattle.ps2_answers.proofs.Then.{exit}
use Rattle.ps2_kept.proofs.Then.{kept_first_steps, kept_first_stops, kept_then_ends}
use Rattle.ps2_command.specs.Command.{command_by}
use Rattle.ps2_command.proofs.command_pair_keeping.Goals as goal

pub returns-in_err-done : goal.returns-in_err-done
returns-in_err-done c =
    rw (exit _ _ c.from_residual.ensures.1) (kept_first_stops _ (λ _. command_by c.args.port c.args.second) _ _ _ _ _ c.in_err-done.ensures)

pub returns : goal.returns
returns c =
    rw c.then.ensures
    (kept_then_ends (omega (arith, c.well_formed)) (omega (arith, c.well_formed)) c.in_ok-done.done _
    (kept_first_steps _ (λ _. command_by c.args.port c.args.second) _ _ _ _ _ c.in_ok-done.ensures) _ _ c.command_by_onto-2.ensures)

pub overflow_mul-tail : goal.overflow_mul-tail
overflow_mul-tail c = search (counts, c.in_ok-done.ensures)

pub slice_bounds-command_by_onto-count : goal.slice_bounds-command_by_onto-count
slice_bounds-command_by_onto-count c = search (counts, c.in_ok-done.ensures)

pub slice_bounds-command_by_onto-start : goal.slice_bounds-command_by_onto-start
slice_bounds-command_by_onto-start c = search (counts, c.in_ok-done.ensures)

pub slice_bounds-command_by_onto-count-2 : goal.slice_bounds-command_by_onto-count-2
slice_bounds-command_by_onto-count-2 c = search (counts, c.in_ok-done.ensures)

pub slice_bounds-command_by_onto-start-2 : goal.slice_bounds-command_by_onto-start-2
slice_bounds-command_by_onto-start-2 c = search (counts, c.in_ok-done.ensures)
