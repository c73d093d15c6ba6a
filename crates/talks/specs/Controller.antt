-- Initialisation of the controller as a talk.
use Rattle.std.specs.Prelude.{Bool, true, false, ◌||◌, cond, Result, Ok, Err}
use Rattle.ps2_bytes.specs.declared.command.HostToControllerCommand.{HostToControllerCommand}
use Rattle.ps2_bytes.specs.declared.command.HostToControllerCommand.TheVariants.{ReadFromInternalRAMByte0, WriteToInternalRAMByte0, TestController, DisablePort1, DisablePort2, TestPort1, TestPort2}
use Rattle.ps2_layouts.specs.declared.configuration.ControllerConfigurationByte.{ControllerConfigurationByte}
use Rattle.ps2_answers.specs.Refusals.{Success, success}
use Rattle.ps2_answers.specs.declared.ReadPort.TheVariants as Port
use Rattle.ps2_answers.specs.declared.Failure.{Failure}
use Rattle.ps2_answers.specs.declared.Failure.TheVariants.{AlreadyInitialized, ControllerTestFailed, PortTestFailed}
use Rattle.ps2_ports.specs.declared.DevicePort.{DevicePort}
use Rattle.ps2_ports.specs.declared.DevicePort.TheVariants.{Port1, Port2}
use Rattle.ps2_setup.specs.declared.WorkingPorts.{WorkingPorts}
use Rattle.ps2_setup.specs.SetUp.{config, quieted, running}
use Rattle.ps2_setup.specs.Answers.{enable_of, clock_of, interrupt_of}
use Rattle.ps2_init.specs.declared.PS2Controller.{PS2Controller}
use Rattle.ps2_init.specs.Init.{has_mouse, with_devices}
use Rattle.questions.specs.Asked.{further_polls}
use Rattle.questions.specs.declared.Sought.TheVariants.{PortPassed, Byte}
use Rattle.talks.specs.declared.controller.ControllerLeft.{ControllerLeft}
use Rattle.talks.specs.Talk.{Talk, tells, next, trying, worked}
use Rattle.talks.specs.Commands.{write, write_command, seek, read_data}
use Rattle.talks.specs.Keyboard.{reset_keyboard}
use Rattle.talks.specs.Mouse.{reset_mouse}

-- The configuration byte: command 20 and one read of data; command 60 and the byte.
unfoldable pub read_config : Talk ControllerConfigurationByte
read_config =
    next (write_command ReadFromInternalRAMByte0) (λ _. next read_data (λ b. tells (Ok (config b))))

unfoldable pub write_config : ControllerConfigurationByte → Talk Success
write_config c = next (write_command WriteToInternalRAMByte0) (λ _. write Port.Data c.bits)

-- "write AD, A7; read data once; write 20, read the configuration"
unfoldable pub disable_devices : Talk ControllerConfigurationByte
disable_devices = next (write_command DisablePort1)
    (λ _. next (write_command DisablePort2) (λ _. next read_data (λ _. read_config)))

-- "Did 55 come within 65,535 data reads of the controller test? 8"
unfoldable pub test_controller : Talk Success
test_controller = next (write_command TestController)
    (λ _. next (seek (Byte 0x55) further_polls ControllerTestFailed) (λ _. tells (Ok success)))

-- "write 60 and the byte; AA and its test; 60 and the byte again"
unfoldable pub test_with : ControllerConfigurationByte → Talk Success
test_with c = next (write_config c) (λ _. next test_controller (λ _. write_config c))

-- "Port test: did 00 come within 65,535 polls? 9"
unfoldable pub test_port : HostToControllerCommand → Talk Success
test_port command = next (write_command command)
    (λ _. next (seek PortPassed further_polls PortTestFailed) (λ _. tells (Ok success)))

unfoldable pub port_works : HostToControllerCommand → Talk Bool
port_works command = worked (test_port command)

-- "A9 test only with a mouse"
abbrev pub second_works : Bool → Talk Bool
second_works true = port_works TestPort2
second_works false = tells (Ok false)

-- "In initialisation: did at least one port pass? 9"
abbrev pub at_least_one : Bool → Bool → Result WorkingPorts Failure
at_least_one first second = cond (first || second)
    (Ok (record { port_1_works = first; port_2_works = second })) (Err PortTestFailed)

unfoldable pub test_ports : Bool → Talk WorkingPorts
test_ports mouse = next (port_works TestPort1)
    (λ first. next (second_works mouse) (λ second. tells (at_least_one first second)))

-- "For port 1 passing: AE, clear bit 4, set bit 0; port 2: A8, clear bit 5, set bit 1."
abbrev pub enable_port : DevicePort → Bool → ControllerConfigurationByte
    → Talk ControllerConfigurationByte
enable_port port true c = next (write_command (enable_of port))
    (λ _. tells (Ok (running (clock_of port) (interrupt_of port) c)))
enable_port port false c = tells (Ok c)

unfoldable pub enable_ports : WorkingPorts → ControllerConfigurationByte → Talk Success
enable_ports ports c =
    next (enable_port Port1 ports.port_1_works c)
    (λ c. next (enable_port Port2 ports.port_2_works c) (λ c. write_config c))

-- "Reset keyboard, then mouse (always tried)." "Then 20 and one read".
unfoldable pub keyboard_attached : Talk Bool
keyboard_attached = worked reset_keyboard

unfoldable pub mouse_attached : Talk Bool
mouse_attached = worked reset_mouse

unfoldable pub reset_devices : Talk PS2Controller
reset_devices =
    next keyboard_attached (λ keyboard.
    next mouse_attached (λ mouse.
    next read_config (λ _. tells (Ok (with_devices keyboard mouse)))))

unfoldable pub set_up : Talk PS2Controller
set_up =
    next disable_devices
    (λ as_read. next (test_with (quieted as_read))
    (λ _. next (test_ports (has_mouse as_read))
    (λ ports. next (enable_ports ports (quieted as_read)) (λ _. reset_devices))))

-- "After 1, 8 or 9 the controller record is as passed in."
abbrev pub controller_left : PS2Controller → Result PS2Controller Failure → ControllerLeft
controller_left passed (Ok controller) = record { answer = Ok success; controller = controller }
controller_left passed (Err f) = record { answer = Err f; controller = passed }

-- "At initialisation: is the controller not yet initialised? 1"
abbrev pub initialize_if : Bool → PS2Controller → Talk ControllerLeft
initialize_if true passed = tells (Ok (controller_left passed (Err AlreadyInitialized)))
initialize_if false passed = next (trying set_up) (λ r. tells (Ok (controller_left passed r)))

unfoldable pub initialize : PS2Controller → Talk ControllerLeft
initialize passed = initialize_if passed.initialized passed
