-- `read_config` meets its contract: a command, then a read of the whole script.
use Prim.Native.Nat.{ℕ}
use native.Mathlib.Omega.{arith}
use Rattle.std.specs.Prelude.{Ok, Err}
use Rattle.exchange.specs.Exchange.{Exchange, done, bind}
use Rattle.exchange.specs.Answer.{Answer, gives, and_then}
use Rattle.ps2_bytes.specs.declared.command.HostToControllerCommand.TheVariants.{ReadFromInternalRAMByte0}
use Rattle.ps2_layouts.specs.declared.configuration.ControllerConfigurationByte.{ControllerConfigurationByte}
use Rattle.ps2_answers.specs.Refusals.{Success}
use Rattle.ps2_answers.proofs.Then.{exit, all_left, writes_told, first_steps, first_stops, then_reads_steps, then_reads_stops, given_here}
use Rattle.ps2_ports.specs.Ports.{read_port, write_port, read_data, write_command, read_config}
use Rattle.ps2_ports.proofs.read_config.Goals as goal

-- what the byte of data is; the read that follows the command
abbrev configured : ℕ → Exchange (Answer ControllerConfigurationByte)
configured b = done (gives (record { bits = b }))

abbrev then_read : Success → Exchange (Answer ControllerConfigurationByte)
then_read _ = and_then read_data configured

pub returns-in_err-written : goal.returns-in_err-written
unfolding read_config read_port write_port and_then bind
returns-in_err-written c =
    rw (exit _ _ c.from_residual.ensures.1)
    (first_stops (write_command ReadFromInternalRAMByte0) then_read _ _ _ (writes_told (Err _) c.in_err-written.ensures _))

pub returns-in_err-read : goal.returns-in_err-read
unfolding read_config read_port write_port and_then bind
returns-in_err-read c =
    let w = c.in_ok-written.ensures in
    rw (exit _ _ c.from_residual-in_err-read.ensures.1)
    (then_reads_stops (omega (arith, c.well_formed)) (omega (arith, c.well_formed)) c.in_ok-written.written read_data configured
    (first_steps (write_command ReadFromInternalRAMByte0) then_read _ _ _ (writes_told (Ok _) w _)) _
    (rw (all_left _ _ w.no_bytes) c.read_data.ensures) _ c.in_err-read.ensures)

pub returns : goal.returns
unfolding read_config read_port write_port and_then bind
returns c =
    let w = c.in_ok-written.ensures in
    rw (c.with.ensures, c.from.ensures)
    (given_here _ (then_reads_steps (omega (arith, c.well_formed)) (omega (arith, c.well_formed)) c.in_ok-written.written read_data configured
    (first_steps (write_command ReadFromInternalRAMByte0) then_read _ _ _ (writes_told (Ok _) w _)) _
    (rw (all_left _ _ w.no_bytes) c.read_data.ensures) _ c.in_ok-read.ensures))
