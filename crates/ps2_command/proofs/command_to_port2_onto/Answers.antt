-- `ps2_command::command_to_port2_onto` meets its contract: D4, then the command on the log's tail.
use native.Mathlib.Omega.{arith}
use Rattle.std.specs.Prelude.{Ok, Err}
use Rattle.exchange.specs.Keeping.{NoData, no_data_done, no_data_write}
use Rattle.exchange.proofs.Counts.{counts}
use Rattle.ps2_bytes.specs.declared.command.HostToControllerCommand.TheVariants.{WriteByteToPort2InputBuffer}
use Rattle.ps2_answers.proofs.Then.{exit, all_left, writes_told}
use Rattle.ps2_kept.proofs.Then.{no_data_steps, no_data_stops, kept_then_ends}
use Rattle.ps2_ports.specs.Ports.{write_port, write_command}
use Rattle.ps2_command.specs.Command.{command, command_to_port2}
use Rattle.ps2_command.proofs.command_to_port2_onto.Goals as goal

no_data_d4 : NoData (write_command WriteByteToPort2InputBuffer)
unfolding write_port
no_data_d4 = no_data_write no_data_done

pub returns-in_err-told : goal.returns-in_err-told
unfolding command_to_port2
returns-in_err-told c =
    rw (exit _ _ c.from_residual.ensures.1)
    (no_data_stops _ (λ _. command c.args.value) no_data_d4 _ _ _ _ (writes_told (Err c.in_err-told.field-0.0) c.in_err-told.ensures _))

pub returns : goal.returns
unfolding command_to_port2
returns c =
    let w = c.in_ok-told.ensures in
    rw c.then.ensures
    (kept_then_ends (omega (arith, c.well_formed)) (omega (arith, c.well_formed)) c.in_ok-told.told _
    (no_data_steps _ (λ _. command c.args.value) no_data_d4 _ _ _ _ (writes_told (Ok c.in_ok-told.told) w _)) _ _
    (rw (all_left c.args.script.now c.in_ok-told.told.used w.no_bytes) c.command_onto.ensures))

pub overflow_mul-tail : goal.overflow_mul-tail
overflow_mul-tail c = search (counts, c.in_ok-told.ensures)

pub slice_bounds-command_onto-count : goal.slice_bounds-command_onto-count
slice_bounds-command_onto-count c = search (counts, c.in_ok-told.ensures)

pub slice_bounds-command_onto-start : goal.slice_bounds-command_onto-start
slice_bounds-command_onto-start c = search (counts, c.in_ok-told.ensures)
