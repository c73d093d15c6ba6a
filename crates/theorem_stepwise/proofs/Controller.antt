-- The talk of the controller's initialisation is its tree.
use mathlib.Core.Bool.{Bool, true, false, cond, ◌||◌}
use mathlib.Core.Path.{◌≡◌, refl, sym, ap, ◌∙◌, fun_ext}
use Rattle.std.specs.Prelude.{Result, Ok, Err}
use Rattle.bits.specs.Bits.{bit}
use Rattle.exchange.specs.Exchange.{p60, p64, done, read, write, bind}
use Rattle.exchange.specs.Answer.{gives, refuses, and_then}
use Rattle.exchange.specs.Left.{Left, left}
use Rattle.exchange.specs.Refuses.{succeeds}
use Rattle.exchange.proofs.Sequence.{bind_assoc}
use Rattle.ps2_bytes.specs.declared.command.HostToControllerCommand.{HostToControllerCommand}
use Rattle.ps2_bytes.specs.declared.command.HostToControllerCommand.TheVariants.{ReadFromInternalRAMByte0, WriteToInternalRAMByte0, TestController, DisablePort1, DisablePort2, TestPort1, TestPort2}
use Rattle.ps2_bytes.specs.Commands.{controller_byte}
use Rattle.ps2_layouts.specs.declared.configuration.ControllerConfigurationByte.{ControllerConfigurationByte}
use Rattle.ps2_layouts.specs.Status.{output_buffer_full}
use Rattle.ps2_ports.specs.declared.DevicePort.{DevicePort}
use Rattle.ps2_ports.specs.declared.DevicePort.TheVariants.{Port1, Port2}
use Rattle.ps2_ports.specs.Ports as ports
use Rattle.ps2_ports.specs.Ports.{flush_output_buffer, write_command}
use Rattle.ps2_answers.specs.Refusals.{Success, success}
use Rattle.ps2_answers.specs.declared.ReadPort.TheVariants as Port
use Rattle.ps2_answers.specs.declared.Failure.{Failure}
use Rattle.ps2_answers.specs.declared.Failure.TheVariants.{AlreadyInitialized, ControllerTestFailed, PortTestFailed}
use Rattle.ps2_polling.specs.Polling.{poll, passed_turn, controller_test_result, test_controller, port_test_result, test_port}
use Rattle.ps2_keyboard.specs.Keyboard.{reset_keyboard}
use Rattle.ps2_mouse.specs.Mouse.{reset_mouse}
use Rattle.ps2_setup.specs.declared.WorkingPorts.{WorkingPorts}
use Rattle.ps2_setup.specs.SetUp as setup
use Rattle.ps2_setup.specs.SetUp.{config, quieted, running}
use Rattle.ps2_setup.specs.Answers.{enable_of, clock_of, interrupt_of}
use Rattle.ps2_init.specs.declared.PS2Controller.{PS2Controller}
use Rattle.ps2_init.specs.Init as init
use Rattle.ps2_init.specs.Init.{has_mouse, with_devices, read_last, or_passed}
use Rattle.questions.specs.declared.Sought.TheVariants.{PortPassed}
use Rattle.questions.specs.Asked.{meets, further_polls}
use Rattle.talks.specs.declared.controller.ControllerLeft.{ControllerLeft}
use Rattle.talks.specs.Talk.{tells, next, tree, answering, answer_of}
use Rattle.talks.specs.Commands as command
use Rattle.talks.specs.Commands.{seek, read_data}
use Rattle.talks.specs.Keyboard as keyboard
use Rattle.talks.specs.Mouse as mouse
use Rattle.talks.specs.Controller as talk
use Rattle.theorem_stepwise.proofs.Trees.{telling, answering_next, telling_tried, answering_sure, tree_worked, answering_tells}
use Rattle.theorem_stepwise.proofs.Waits.{after_seek, answering_sought, answering_data, answering_write, answering_written, answering_write_command, polls_through, this_through, answering_byte}
use Rattle.theorem_stepwise.proofs.Keyboard.{answering_reset_keyboard}
use Rattle.theorem_stepwise.proofs.Mouse.{answering_reset_mouse}

-- ---- the configuration

pub answering_read_config : answering talk.read_config ≡ ports.read_config
unfolding talk.read_config ports.read_config
answering_read_config =
    answering_write Port.Status (controller_byte ReadFromInternalRAMByte0) (λ _. next read_data (λ b. tells (Ok (config b))))
    ∙ ap (write p64 (controller_byte ReadFromInternalRAMByte0)) (answering_data (λ b. tells (Ok (config b))) ∙ ap (read p60) (fun_ext (λ b. answering_tells (Ok (config b)))))

pub answering_write_config : (c : ControllerConfigurationByte) → answering (talk.write_config c) ≡ ports.write_config c
unfolding talk.write_config ports.write_config
answering_write_config c =
    answering_write Port.Status (controller_byte WriteToInternalRAMByte0) (λ _. command.write Port.Data c.bits)
    ∙ ap (write p64 (controller_byte WriteToInternalRAMByte0)) (answering_written Port.Data c.bits)

flushed : answering (next read_data (λ _. talk.read_config)) ≡ and_then flush_output_buffer (λ _. ports.read_config)
unfolding and_then flush_output_buffer bind
flushed = answering_data (λ _. talk.read_config) ∙ ap (read p60) (fun_ext (λ _. answering_read_config))

disables : answering talk.disable_devices ≡ setup.disable_devices
unfolding talk.disable_devices setup.disable_devices
disables =
    answering_next (command.write_command DisablePort1) _ (λ _. next (command.write_command DisablePort2) (λ _. next read_data (λ _. talk.read_config))) _ (answering_write_command DisablePort1)
    (λ _. answering_next (command.write_command DisablePort2) _ (λ _. next read_data (λ _. talk.read_config)) _ (answering_write_command DisablePort2) (λ _. flushed))

-- ---- the tests

tests : answering talk.test_controller ≡ test_controller
unfolding talk.test_controller test_controller controller_test_result
tests =
    answering_next (command.write_command TestController) _ (λ _. next (seek _ further_polls ControllerTestFailed) (λ _. tells (Ok success))) _ (answering_write_command TestController)
    (λ _. answering_byte 0x55 further_polls ControllerTestFailed)

tests_with : (c : ControllerConfigurationByte) → answering (talk.test_with c) ≡ setup.test_with c
unfolding talk.test_with setup.test_with
tests_with c =
    answering_next (talk.write_config c) _ (λ _. next talk.test_controller (λ _. talk.write_config c)) _ (answering_write_config c)
    (λ _. answering_next talk.test_controller _ (λ _. talk.write_config c) _ tests (λ _. answering_write_config c))

tests_port : (c : HostToControllerCommand) → answering (talk.test_port c) ≡ test_port c
unfolding talk.test_port test_port port_test_result poll bind
tests_port c =
    answering_next (command.write_command c) _ (λ _. next (seek PortPassed further_polls PortTestFailed) (λ _. tells (Ok success))) _ (answering_write_command c)
    (λ _. answering_sought PortPassed further_polls PortTestFailed (λ _. tells (Ok success)) (poll (passed_turn 0x00))
    (ap (read p64) (fun_ext (λ status. polls_through (after_seek PortTestFailed (λ _. answering (tells (Ok success)))) (meets PortPassed) (passed_turn 0x00) (this_through PortTestFailed 0x00) (bit output_buffer_full status)))))

first_works : (c : HostToControllerCommand) → tree (talk.port_works c) ≡ bind (succeeds (test_port c)) (λ b. done (Ok b))
unfolding talk.port_works
first_works c = tree_worked (talk.test_port c) (test_port c) (tests_port c)

second_works : (mouse : Bool) → tree (talk.second_works mouse) ≡ bind (setup.test_second mouse) (λ b. done (Ok b))
unfolding tree bind
second_works true = first_works TestPort2
second_works false = refl

least : (v : Bool) (w : WorkingPorts) → answering (tells (cond v (Ok w) (Err PortTestFailed))) ≡ done (cond v (gives w) (refuses 9))
least true w = answering_tells (Ok w)
least false w = answering_tells (Err PortTestFailed)

tests_ports : (mouse : Bool) → answering (talk.test_ports mouse) ≡ setup.test_ports mouse
unfolding talk.test_ports setup.test_ports
tests_ports mouse =
    answering_sure (talk.port_works TestPort1) (succeeds (test_port TestPort1)) _ _ (first_works TestPort1)
    (λ first. answering_sure (talk.second_works mouse) (setup.test_second mouse) _ _ (second_works mouse)
    (λ second. least (first || second) (record { port_1_works = first; port_2_works = second })))

-- ---- the ports

enables : (port : DevicePort) (works : Bool) (c : ControllerConfigurationByte)
    → answering (talk.enable_port port works c) ≡ setup.enable_port (enable_of port) (clock_of port) (interrupt_of port) works c
enables port true c = answering_next (command.write_command (enable_of port)) _ (λ _. tells (Ok (running (clock_of port) (interrupt_of port) c))) _ (answering_write_command (enable_of port)) (λ _. answering_tells _)
enables port false c = answering_tells (Ok c)

enables_ports : (working : WorkingPorts) (c : ControllerConfigurationByte) → answering (talk.enable_ports working c) ≡ setup.enable_ports working c
unfolding talk.enable_ports setup.enable_ports
enables_ports working c =
    answering_next (talk.enable_port Port1 working.port_1_works c) _ (λ c. next (talk.enable_port Port2 working.port_2_works c) (λ c. talk.write_config c)) _ (enables Port1 working.port_1_works c)
    (λ c. answering_next (talk.enable_port Port2 working.port_2_works c) _ (λ c. talk.write_config c) _ (enables Port2 working.port_2_works c) (λ c. answering_write_config c))

-- ---- the devices

grouped : bind init.reset_devices read_last ≡ bind (succeeds reset_keyboard) (λ keyboard. bind (succeeds reset_mouse) (λ mouse. read_last (with_devices keyboard mouse)))
unfolding init.reset_devices bind
grouped =
    bind_assoc (succeeds reset_keyboard) (λ keyboard. bind (succeeds reset_mouse) (λ mouse. done (with_devices keyboard mouse))) read_last
    ∙ ap (bind (succeeds reset_keyboard)) (fun_ext (λ keyboard. bind_assoc (succeeds reset_mouse) (λ mouse. done (with_devices keyboard mouse)) read_last))

resets : answering talk.reset_devices ≡ bind init.reset_devices read_last
unfolding talk.reset_devices talk.keyboard_attached talk.mouse_attached
resets =
    answering_sure talk.keyboard_attached (succeeds reset_keyboard) _ (λ keyboard. bind (succeeds reset_mouse) (λ mouse. read_last (with_devices keyboard mouse))) (tree_worked keyboard.reset_keyboard _ answering_reset_keyboard)
    (λ k. answering_sure talk.mouse_attached (succeeds reset_mouse) _ (λ m. read_last (with_devices k m)) (tree_worked mouse.reset_mouse _ answering_reset_mouse)
    (λ m. answering_next talk.read_config ports.read_config (λ _. tells (Ok (with_devices k m))) (λ _. done (gives (with_devices k m))) answering_read_config (λ _. answering_tells _)))
    ∙ sym grouped

-- ---- all of them

pub answering_set_up : answering talk.set_up ≡ init.set_up
unfolding talk.set_up init.set_up
answering_set_up =
    answering_next talk.disable_devices setup.disable_devices _ _ disables
    (λ as_read. answering_next (talk.test_with (quieted as_read)) (setup.test_with (quieted as_read)) _ _ (tests_with (quieted as_read))
    (λ _. answering_next (talk.test_ports (has_mouse as_read)) (setup.test_ports (has_mouse as_read)) _ _ (tests_ports (has_mouse as_read))
    (λ working. answering_next (talk.enable_ports working (quieted as_read)) (setup.enable_ports working (quieted as_read)) _ _ (enables_ports working (quieted as_read)) (λ _. resets))))

-- what it leaves
abbrev pub left_told : Result ControllerLeft Failure → Left PS2Controller Success
left_told (Ok l) = left (answer_of l.answer) l.controller
left_told (Err f) = left (answer_of (Err f)) (record { initialized = false; keyboard_attached = false; mouse_attached = false })

told_left : (passed : PS2Controller) (r : Result PS2Controller Failure) → telling left_told (tells (Ok (talk.controller_left passed r))) ≡ done (or_passed passed (answer_of r))
unfolding bind tree
told_left passed (Ok c) = refl
told_left passed (Err f) = refl

initializes : (v : Bool) (passed : PS2Controller)
    → telling left_told (talk.initialize_if v passed) ≡ cond v (done (left (refuses 1) passed)) (bind init.set_up (λ a. done (or_passed passed a)))
initializes true passed = told_left passed (Err AlreadyInitialized)
initializes false passed = telling_tried left_told talk.set_up init.set_up (λ r. tells (Ok (talk.controller_left passed r))) (λ a. done (or_passed passed a)) answering_set_up (told_left passed)

pub telling_initialize : (passed : PS2Controller) → telling left_told (talk.initialize passed) ≡ init.initialize passed
unfolding talk.initialize init.initialize
telling_initialize passed = initializes passed.initialized passed
