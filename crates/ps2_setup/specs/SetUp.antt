-- The steps of initialisation that concern the controller
-- alone, as trees of their reads and writes.
use Rattle.std.specs.Prelude.{Bool, true, false, cond, ◌||◌, ℕ}
use Rattle.bits.specs.Bits.{put_bit}
use Rattle.exchange.specs.Exchange.{Exchange, done, bind}
use Rattle.exchange.specs.Answer.{Answer, gives, refuses, and_then}
use Rattle.exchange.specs.Refuses.{succeeds}
use Rattle.ps2_bytes.specs.declared.command.HostToControllerCommand.{HostToControllerCommand}
use Rattle.ps2_bytes.specs.declared.command.HostToControllerCommand.TheVariants.{DisablePort1, DisablePort2, EnablePort1, EnablePort2, TestPort1, TestPort2}
use Rattle.ps2_layouts.specs.declared.configuration.ControllerConfigurationByte.{ControllerConfigurationByte}
use Rattle.ps2_layouts.specs.Configuration.{port1_interrupt, port2_interrupt, port1_clock_disabled, port2_clock_disabled, port1_translation}
use Rattle.ps2_answers.specs.Refusals.{Success}
use Rattle.ps2_ports.specs.Ports.{write_command, flush_output_buffer, read_config, write_config}
use Rattle.ps2_polling.specs.Polling.{test_controller, test_port}
use Rattle.ps2_setup.specs.declared.WorkingPorts.{WorkingPorts}

-- ---- the configuration

abbrev pub config : ℕ → ControllerConfigurationByte
config b = record { bits = b }

-- "bits 0, 1 and 6 are cleared"
abbrev pub quieted : ControllerConfigurationByte → ControllerConfigurationByte
quieted c = config (put_bit port1_translation false
    (put_bit port2_interrupt false (put_bit port1_interrupt false c.bits)))

-- "clear bit 4, set bit 0; port 2: .. clear bit 5, set bit 1"
abbrev pub running : ℕ → ℕ → ControllerConfigurationByte → ControllerConfigurationByte
running clock interrupt c = config (put_bit interrupt true (put_bit clock false c.bits))

-- ---- its steps, in order

-- "write AD, A7; read data once; write 20, read the configuration"
unfoldable pub disable_devices : Exchange (Answer ControllerConfigurationByte)
disable_devices = and_then (write_command DisablePort1)
    (λ _. and_then (write_command DisablePort2)
    (λ _. and_then flush_output_buffer (λ _. read_config)))

-- "write 60 and the byte; AA and its test; 60 and the byte again"
unfoldable pub test_with : ControllerConfigurationByte → Exchange (Answer Success)
test_with c = and_then (write_config c) (λ _. and_then test_controller (λ _. write_config c))

-- "A9 test only with a mouse"
abbrev pub test_second : Bool → Exchange Bool
test_second true = succeeds (test_port TestPort2)
test_second false = done false

-- "In initialisation: did at least one port pass? 9"
abbrev pub at_least_one : Bool → Bool → Answer WorkingPorts
at_least_one first second = cond (first || second)
    (gives (record { port_1_works = first; port_2_works = second })) (refuses 9)

-- "AB test; A9 test"
unfoldable pub test_ports : Bool → Exchange (Answer WorkingPorts)
test_ports mouse = bind (succeeds (test_port TestPort1))
    (λ first. bind (test_second mouse) (λ second. done (at_least_one first second)))

-- "For port 1 passing: AE, clear bit 4, set bit 0; port 2: A8, clear bit 5, set bit 1."
abbrev pub enable_port : HostToControllerCommand → ℕ → ℕ → Bool → ControllerConfigurationByte
    → Exchange (Answer ControllerConfigurationByte)
enable_port command clock interrupt true c =
    and_then (write_command command) (λ _. done (gives (running clock interrupt c)))
enable_port command clock interrupt false c = done (gives c)

-- Both, and then "Write 60 and the byte."
unfoldable pub enable_ports : WorkingPorts → ControllerConfigurationByte → Exchange (Answer Success)
enable_ports ports c =
    and_then (enable_port EnablePort1 port1_clock_disabled port1_interrupt ports.port_1_works c)
    (λ c. and_then (enable_port EnablePort2 port2_clock_disabled port2_interrupt ports.port_2_works
    c) (λ c. write_config c))
