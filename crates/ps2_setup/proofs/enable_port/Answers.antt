-- `ps2_setup::enable_port` meets its contract: a command where the port passed, and nothing where it did not.
use mathlib.Core.Path.{◌≡◌, refl}
use Rattle.std.proofs.Common.{rules}
use Rattle.exchange.specs.Exchange.{Exchange, done, play}
use Rattle.exchange.specs.Answer.{Answer, gives}
use Rattle.ps2_bytes.specs.declared.command.HostToControllerCommand.{HostToControllerCommand}
use Rattle.ps2_layouts.specs.declared.configuration.ControllerConfigurationByte.{ControllerConfigurationByte}
use Rattle.ps2_answers.specs.Refusals.{Success}
use Rattle.ps2_ports.specs.declared.DevicePort.{DevicePort}
use Rattle.ps2_answers.proofs.Then.{exit, writes_first_stops}
use Rattle.ps2_ports.specs.Ports.{write_command}
use Rattle.ps2_setup.specs.SetUp.{running}
use Rattle.ps2_setup.specs.Answers.{enable_of, clock_of, interrupt_of}
use Rattle.ps2_setup.proofs.Writing.{write_first, write_here}
use Rattle.ps2_setup.proofs.enable_port.Goals as goal
use Rattle.ps2_setup.proofs.enable_port.Goals.{in-Port1, in-Port2, After-write_command}

-- what goes with the port, by the sentence on it
abbrev of_port : DevicePort → ControllerConfigurationByte → HostToControllerCommand × ControllerConfigurationByte
of_port port c = (enable_of port, running (clock_of port) (interrupt_of port) c)

chosen : (c : After-write_command) → c.match-port.enable ≡ of_port c.args.port c.args.config
chosen c = elim c.match-port.branch [
  | in-Port1 w ↦ rw (w.enable-is, w.in-Port1.is) (search rules)
  | in-Port2 w ↦ rw (w.enable-is, w.in-Port2.is) (search rules)
]

abbrev enabled : DevicePort → ControllerConfigurationByte → Success → Exchange (Answer ControllerConfigurationByte)
enabled port config _ = done (gives (running (clock_of port) (interrupt_of port) config))

pub returns-in_err-written : goal.returns-in_err-written
returns-in_err-written c =
    let a = c.args in
    rw (exit _ _ c.from_residual.ensures.1, c.if-not-works.false)
    (writes_first_stops (write_command (enable_of a.port)) (enabled a.port a.config) _ _ (rw (chosen (goal.at.returns-in_err-written c).After-write_command) at c.in_err-written.ensures))

pub returns : goal.returns
returns c =
    let a = c.args in
    rw (c.if-not-works.false, c.with.ensures, chosen (goal.at.returns c).After-write_command)
    (write_here (write_first (write_command (enable_of a.port)) (enabled a.port a.config) _ _ (rw (chosen (goal.at.returns c).After-write_command) at c.in_ok-written.ensures)))

pub returns-then-not-works : goal.returns-then-not-works
unfolding play
returns-then-not-works c = rw (c.if-not-works.true, c.new.ensures) (record { with_any = λ s. refl; no_bytes = refl })
