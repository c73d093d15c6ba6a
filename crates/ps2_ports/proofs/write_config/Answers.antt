-- `write_config` meets its contract: a command, then a write to what is left of the log.
use native.Mathlib.Omega.{arith}
use Rattle.exchange.specs.Exchange.{bind}
use Rattle.exchange.specs.Answer.{and_then}
use Rattle.exchange.proofs.Counts.{counts}
use Rattle.ps2_bytes.specs.declared.command.HostToControllerCommand.TheVariants.{WriteToInternalRAMByte0}
use Rattle.ps2_bytes.specs.declared.writable.WritableData.{WritableData}
use Rattle.ps2_answers.proofs.Then.{exit, writes_first_stops, writes_then_ends}
use Rattle.ps2_ports.specs.Ports.{write_port, write_command, write_data, write_config}
use Rattle.ps2_ports.proofs.write_config.Goals as goal

pub returns-in_err-written : goal.returns-in_err-written
unfolding write_config write_port and_then bind
returns-in_err-written c =
    rw (exit _ _ c.from_residual.ensures.1)
    (writes_first_stops (write_command WriteToInternalRAMByte0) (λ _. write_data (WritableData.Configuration c.args.value)) _ _ c.in_err-written.ensures)

pub returns : goal.returns
unfolding write_config write_port and_then bind
returns c =
    rw c.then.ensures
    (writes_then_ends (write_command WriteToInternalRAMByte0) (λ _. write_data (WritableData.Configuration c.args.value)) _ (omega (arith, c.well_formed))
    _ c.in_ok-written.ensures _ c.write_data.ensures)

pub overflow_mul-at : goal.overflow_mul-at
overflow_mul-at c = search (counts, c.in_ok-written.ensures)

pub slice_bounds-write_data-count : goal.slice_bounds-write_data-count
slice_bounds-write_data-count c = search (counts, c.in_ok-written.ensures)

pub slice_bounds-write_data-start : goal.slice_bounds-write_data-start
slice_bounds-write_data-start c = search (counts, c.in_ok-written.ensures)
