-- Initialisation of the controller as a tree of its reads
-- and writes, and the devices that it found.
use Rattle.std.specs.Prelude.{Bool, true, cond, Option, Some, None}
use Rattle.bits.specs.Bits.{bit}
use Rattle.exchange.specs.Exchange.{Exchange, done, bind}
use Rattle.exchange.specs.Answer.{Answer, gives, refuses, and_then}
use Rattle.exchange.specs.Left.{Left, left}
use Rattle.exchange.specs.Refuses.{succeeds}
use Rattle.ps2_bytes.specs.declared.response.MouseId.TheVariants.{Zero}
use Rattle.ps2_layouts.specs.declared.configuration.ControllerConfigurationByte.{ControllerConfigurationByte}
use Rattle.ps2_layouts.specs.Configuration.{port2_clock_disabled}
use Rattle.ps2_answers.specs.Refusals.{Success, success}
use Rattle.ps2_ports.specs.Ports.{read_config}
use Rattle.ps2_keyboard.specs.Keyboard.{reset_keyboard}
use Rattle.ps2_mouse.specs.declared.PS2Mouse.{PS2Mouse}
use Rattle.ps2_mouse.specs.Mouse.{reset_mouse}
use Rattle.ps2_setup.specs.declared.WorkingPorts.{WorkingPorts}
use Rattle.ps2_setup.specs.SetUp.{quieted, disable_devices, test_with, test_ports, enable_ports}
use Rattle.ps2_init.specs.declared.PS2Controller.{PS2Controller}
use Rattle.ps2_init.specs.declared.PS2Keyboard.{PS2Keyboard}

-- ---- its steps: those of the controller alone are in crates/ps2_setup/specs/SetUp.antt

-- "bit 5 as read means 'has a mouse'"
abbrev pub has_mouse : ControllerConfigurationByte → Bool
has_mouse as_read = bit port2_clock_disabled as_read.bits

-- "Reset keyboard, then mouse (always tried); a passed reset
-- makes its 'attached' true, a failed one only makes it false."
abbrev pub with_devices : Bool → Bool → PS2Controller
with_devices keyboard mouse =
    record { initialized = true; keyboard_attached = keyboard; mouse_attached = mouse }

unfoldable pub reset_devices : Exchange PS2Controller
reset_devices = bind (succeeds reset_keyboard)
    (λ keyboard. bind (succeeds reset_mouse) (λ mouse. done (with_devices keyboard mouse)))

-- "Then 20 and one read". What it gives is the controller as it is then.
abbrev pub read_last : PS2Controller → Exchange (Answer PS2Controller)
read_last controller = and_then read_config (λ _. done (gives controller))

-- All of them, said from the last on: from the enabling of the ports, from their tests, from the
-- controller's test, and from the start.
abbrev pub enabled : ControllerConfigurationByte → WorkingPorts → Exchange (Answer PS2Controller)
enabled config ports = and_then (enable_ports ports config) (λ _. bind reset_devices read_last)

abbrev pub ports_tested : ControllerConfigurationByte → Bool → Exchange (Answer PS2Controller)
ports_tested config mouse = and_then (test_ports mouse) (enabled config)

abbrev pub tested : ControllerConfigurationByte → Bool → Exchange (Answer PS2Controller)
tested config mouse = and_then (test_with config) (λ _. ports_tested config mouse)

unfoldable pub set_up : Exchange (Answer PS2Controller)
set_up = and_then disable_devices (λ as_read. tested (quieted as_read) (has_mouse as_read))

-- ---- on the controller's record

-- "After 1, 8 or 9 the controller record is as passed in."
abbrev pub or_passed : PS2Controller → Answer PS2Controller → Left PS2Controller Success
or_passed passed (gives controller) = left (gives success) controller
or_passed passed (refuses n) = left (refuses n) passed

-- "At initialisation: is the controller not yet initialised? 1"
unfoldable pub initialize : PS2Controller → Exchange (Left PS2Controller Success)
initialize passed = cond passed.initialized (done (left (refuses 1) passed))
    (bind set_up (λ a. done (or_passed passed a)))

-- ---- the devices, by the "attached" flags; a mouse has
-- identity 0 until `set_mouse_id` finds another

abbrev pub keyboard_ref : PS2Controller → Option PS2Keyboard
keyboard_ref c = cond c.keyboard_attached (Some (record {})) None

abbrev pub mouse_ref : PS2Controller → Option PS2Mouse
mouse_ref c = cond c.mouse_attached (Some (record { id = Zero })) None
