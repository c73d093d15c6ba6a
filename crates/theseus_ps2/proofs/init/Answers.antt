-- `init` meets its contract: its steps are those of the definition.
use mathlib.Core.Bool.{Bool, true, false}
use mathlib.Core.Path.{◌≡◌, refl, ap, ◌∙◌}
use Rattle.std.proofs.Common.{rules}
use Rattle.exchange.specs.Answer.{gives}
use Rattle.exchange.specs.Refuses.{succeeds}
use Rattle.ps2_answers.specs.Refusals.{success}
use Rattle.ps2_bytes.specs.declared.command.HostToControllerCommand.TheVariants.{EnablePort1, EnablePort2, TestPort1, TestPort2, DisablePort1, DisablePort2}
use Rattle.ps2_layouts.specs.declared.configuration.ControllerConfigurationByte.{ControllerConfigurationByte}
use Rattle.ps2_layouts.specs.Configuration.{port1_interrupt, port2_interrupt, port1_clock_disabled, port2_clock_disabled}
use Rattle.ps2_ports.specs.Ports.{write_command, flush_output_buffer, read_config, write_config}
use Rattle.ps2_polling.specs.Polling.{test_controller, test_port}
use Rattle.ps2_keyboard.specs.Keyboard.{reset_keyboard}
use Rattle.ps2_mouse.specs.Mouse.{reset_mouse}
use Rattle.ps2_setup.specs.declared.WorkingPorts.{WorkingPorts}
use Rattle.ps2_setup.specs.SetUp.{quieted, running, disable_devices, test_with, test_second, at_least_one, test_ports, enable_port, enable_ports}
use Rattle.ps2_init.specs.Init.{has_mouse}
use Rattle.theseus_ps2.specs.Hardware.{ran, run}
use Rattle.theseus_ps2.specs.Controller.{on_controller}
use Rattle.theseus_ps2.specs.Messages.{said}
use Rattle.theseus_ps2.proofs.Run.{run_done}
use Rattle.theseus_ps2.proofs.Exit.{exits}
use Rattle.theseus_ps2.proofs.SetUp.{ok_given, mouse_bit, hardware_ran, flags, flags_kept, first_works, second_works, devices_disabled, test_passed, test_failed, tried, second_without, both_tried, port_enabled, ports_enabled, devices_reset, set_up_tested, set_up_failed, set_up_done}
use Rattle.theseus_ps2.proofs.init.Goals as goal
use Rattle.theseus_ps2.proofs.init.Goals.{then-has_mouse, else-has_mouse, else-not-port_1_works-via-then-not-port_1_works+else-not-port_2_works, else-not-port_1_works-via-else-not-port_1_works, then-port_1_works, else-port_1_works, then-port_2_works, else-port_2_works, in-Err, in_default, in-Err-reset, in_default-reset}

pub returns-in_err-test-clause-ran : goal.returns-in_err-test-clause-ran
returns-in_err-test-clause-ran g c h =
    let d = g.H.Hardware.device in
    let r = c.read_config-config.result in
    let q : c.set_port1_scancode_translation_enabled-config.result ≡ quieted r = search rules in
    let off : ran (gives r) c.read_config-config.new.self.hardware ≡ run d disable_devices c.args.controller.now.hardware =
    devices_disabled d _ _ _ _ _ (hardware_ran d (write_command DisablePort1) _ _ _ c.write_command.ensures) (hardware_ran d (write_command DisablePort2) _ _ _ c.write_command-2.ensures)
    (hardware_ran d flush_output_buffer _ _ _ c.flush_output_buffer.ensures) (hardware_ran d read_config _ _ _ c.read_config-config.ensures) in
    rw (exits _ _ c.from_residual.ensures.1)
    (set_up_tested d r _ _ off _
    (test_failed d (quieted r) _ _ _ (rw q at (hardware_ran d (write_config c.set_port1_scancode_translation_enabled-config.result) _ _ _ c.write_config.ensures))
    (hardware_ran d test_controller _ _ _ (c.in_err-test.ensures))))

pub returns-then-not-port_2_works-clause-ran : goal.returns-then-not-port_2_works-clause-ran
returns-then-not-port_2_works-clause-ran g c h =
    let d = g.H.Hardware.device in
    let r = c.read_config-config.result in
    let q : c.set_port1_scancode_translation_enabled-config.result ≡ quieted r = search rules in
    let off : ran (gives r) c.read_config-config.new.self.hardware ≡ run d disable_devices c.args.controller.now.hardware =
    devices_disabled d _ _ _ _ _ (hardware_ran d (write_command DisablePort1) _ _ _ c.write_command.ensures) (hardware_ran d (write_command DisablePort2) _ _ _ c.write_command-2.ensures)
    (hardware_ran d flush_output_buffer _ _ _ c.flush_output_buffer.ensures) (hardware_ran d read_config _ _ _ c.read_config-config.ensures) in
    let passed : ran (gives success) c.write_config-2.new.self.hardware ≡ run d (test_with (quieted r)) c.read_config-config.new.self.hardware =
    test_passed d (quieted r) _ _ _ _ (rw q at (hardware_ran d (write_config c.set_port1_scancode_translation_enabled-config.result) _ _ _ c.write_config.ensures))
    (hardware_ran d test_controller _ _ _ (c.in_ok-test.ensures)) (rw q at (hardware_ran d (write_config c.set_port1_scancode_translation_enabled-config.result) _ _ _ c.write_config-2.ensures)) in
    let m : c.port2_clock_disabled-has_mouse.result ≡ has_mouse r = c.port2_clock_disabled-has_mouse.ensures ∙ ap (λ (x : ControllerConfigurationByte). has_mouse x) q ∙ mouse_bit r in
    let first : ran c.is_ok-port_1_works.result c.test_port1.new.self.hardware ≡ run d (succeeds (test_port TestPort1)) c.write_config-2.new.self.hardware =
    rw (c.is_ok-port_1_works.ensures.value, ok_given c.test_port1.result) (tried d (test_port TestPort1) _ _ (hardware_ran d (test_port TestPort1) _ _ _ c.test_port1.ensures)) in
    let second : ran c.if-has_mouse.port_2_works c.if-has_mouse.controller.hardware ≡ run d (test_second c.port2_clock_disabled-has_mouse.result) c.test_port1.new.self.hardware =
    elim c.if-has_mouse.branch [
      | then-has_mouse w ↦
          rw (w.controller-is, w.port_2_works-is, w.if-has_mouse.true, w.is_ok-port_2_works.ensures.value, ok_given w.test_port2.result)
          (tried d (test_port TestPort2) _ _ (hardware_ran d (test_port TestPort2) _ _ _ w.test_port2.ensures))
      | else-has_mouse w ↦ rw (w.controller-is, w.port_2_works-is, w.if-has_mouse.false) (second_without d _)
    ] in
    set_up_failed d r _ _ off _ passed _
    (rw (m, c.if-not-port_1_works.true, c.if-not-port_2_works.true) at (both_tried d c.port2_clock_disabled-has_mouse.result c.is_ok-port_1_works.result c.if-has_mouse.port_2_works _ _ _ first second))

pub returns-clause-ran : goal.returns-clause-ran
returns-clause-ran g c h =
    let d = g.H.Hardware.device in
    let r = c.read_config-config.result in
    let q : c.set_port1_scancode_translation_enabled-config.result ≡ quieted r = search rules in
    let off : ran (gives r) c.read_config-config.new.self.hardware ≡ run d disable_devices c.args.controller.now.hardware =
    devices_disabled d _ _ _ _ _ (hardware_ran d (write_command DisablePort1) _ _ _ c.write_command.ensures) (hardware_ran d (write_command DisablePort2) _ _ _ c.write_command-2.ensures)
    (hardware_ran d flush_output_buffer _ _ _ c.flush_output_buffer.ensures) (hardware_ran d read_config _ _ _ c.read_config-config.ensures) in
    let passed : ran (gives success) c.write_config-2.new.self.hardware ≡ run d (test_with (quieted r)) c.read_config-config.new.self.hardware =
    test_passed d (quieted r) _ _ _ _ (rw q at (hardware_ran d (write_config c.set_port1_scancode_translation_enabled-config.result) _ _ _ c.write_config.ensures))
    (hardware_ran d test_controller _ _ _ (c.in_ok-test.ensures)) (rw q at (hardware_ran d (write_config c.set_port1_scancode_translation_enabled-config.result) _ _ _ c.write_config-2.ensures)) in
    let m : c.port2_clock_disabled-has_mouse.result ≡ has_mouse r = c.port2_clock_disabled-has_mouse.ensures ∙ ap (λ (x : ControllerConfigurationByte). has_mouse x) q ∙ mouse_bit r in
    let first : ran c.is_ok-port_1_works.result c.test_port1.new.self.hardware ≡ run d (succeeds (test_port TestPort1)) c.write_config-2.new.self.hardware =
    rw (c.is_ok-port_1_works.ensures.value, ok_given c.test_port1.result) (tried d (test_port TestPort1) _ _ (hardware_ran d (test_port TestPort1) _ _ _ c.test_port1.ensures)) in
    let second : ran c.if-has_mouse.port_2_works c.if-has_mouse.controller.hardware ≡ run d (test_second c.port2_clock_disabled-has_mouse.result) c.test_port1.new.self.hardware =
    elim c.if-has_mouse.branch [
      | then-has_mouse w ↦
          rw (w.controller-is, w.port_2_works-is, w.if-has_mouse.true, w.is_ok-port_2_works.ensures.value, ok_given w.test_port2.result)
          (tried d (test_port TestPort2) _ _ (hardware_ran d (test_port TestPort2) _ _ _ w.test_port2.ensures))
      | else-has_mouse w ↦ rw (w.controller-is, w.port_2_works-is, w.if-has_mouse.false) (second_without d _)
    ] in
    let ports : WorkingPorts = record { port_1_works = c.is_ok-port_1_works.result; port_2_works = c.if-has_mouse.port_2_works } in
    let some : at_least_one c.is_ok-port_1_works.result c.if-has_mouse.port_2_works ≡ gives ports =
    elim c.else-not-port_1_works.branch [
      | else-not-port_1_works-via-then-not-port_1_works+else-not-port_2_works w ↦ second_works c.is_ok-port_1_works.result c.if-has_mouse.port_2_works w.if-not-port_2_works.false
      | else-not-port_1_works-via-else-not-port_1_works w ↦ first_works c.is_ok-port_1_works.result c.if-has_mouse.port_2_works w.if-not-port_1_works.false
    ] in
    let tested : ran (gives ports) c.if-has_mouse.controller.hardware ≡ run d (test_ports (has_mouse r)) c.write_config-2.new.self.hardware =
    rw some at (rw m at (both_tried d c.port2_clock_disabled-has_mouse.result c.is_ok-port_1_works.result c.if-has_mouse.port_2_works _ _ _ first second)) in
    let first_on : ran (gives c.if-port_1_works.config) c.if-port_1_works.controller.hardware
    ≡ run d (enable_port EnablePort1 port1_clock_disabled port1_interrupt c.is_ok-port_1_works.result (quieted r)) c.if-has_mouse.controller.hardware =
    elim c.if-port_1_works.branch [
      | then-port_1_works w ↦
          let k : w.set_port1_interrupt_enabled-config-then-port_1_works.result ≡ running port1_clock_disabled port1_interrupt (quieted r) = search rules in
          rw (w.controller-is, w.config-is, k, w.if-port_1_works.true)
          (port_enabled d EnablePort1 port1_clock_disabled port1_interrupt (quieted r) _ _ (hardware_ran d (write_command EnablePort1) _ _ _ w.write_command-then-port_1_works.ensures))
      | else-port_1_works w ↦ rw (w.controller-is, w.config-is, q, w.if-port_1_works.false) (run_done d (gives (quieted r)) _)
    ] in
    let second_on : ran (gives c.if-port_2_works.config) c.if-port_2_works.controller.hardware
    ≡ run d (enable_port EnablePort2 port2_clock_disabled port2_interrupt c.if-has_mouse.port_2_works c.if-port_1_works.config) c.if-port_1_works.controller.hardware =
    elim c.if-port_2_works.branch [
      | then-port_2_works w ↦
          let k : w.set_port2_interrupt_enabled-config-then-port_2_works.result ≡ running port2_clock_disabled port2_interrupt c.if-port_1_works.config = search rules in
          rw (w.controller-is, w.config-is, k, w.if-port_2_works.true)
          (port_enabled d EnablePort2 port2_clock_disabled port2_interrupt c.if-port_1_works.config _ _ (hardware_ran d (write_command EnablePort2) _ _ _ w.write_command-then-port_2_works.ensures))
      | else-port_2_works w ↦ rw (w.controller-is, w.config-is, w.if-port_2_works.false) (run_done d (gives c.if-port_1_works.config) _)
    ] in
    let on : ran (gives success) c.write_config-3.new.self.hardware ≡ run d (enable_ports ports (quieted r)) c.if-has_mouse.controller.hardware =
    ports_enabled d ports (quieted r) c.if-port_1_works.config c.if-port_2_works.config _ _ _ _ first_on second_on (hardware_ran d (write_config c.if-port_2_works.config) _ _ _ c.write_config-3.ensures) in
    let none : flags c.write_config-3.new.self ≡ (false, false) =
    flags_kept d (write_config c.if-port_2_works.config) _ _ _ c.write_config-3.ensures
    ∙ elim c.if-port_2_works.branch as (λ _. flags c.if-port_2_works.controller ≡ flags c.if-port_1_works.controller) [
      | then-port_2_works w ↦ rw w.controller-is (flags_kept d (write_command EnablePort2) _ _ _ w.write_command-then-port_2_works.ensures)
      | else-port_2_works w ↦ rw w.controller-is refl
    ]
    ∙ elim c.if-port_1_works.branch as (λ _. flags c.if-port_1_works.controller ≡ flags c.if-has_mouse.controller) [
      | then-port_1_works w ↦ rw w.controller-is (flags_kept d (write_command EnablePort1) _ _ _ w.write_command-then-port_1_works.ensures)
      | else-port_1_works w ↦ rw w.controller-is refl
    ]
    ∙ elim c.if-has_mouse.branch as (λ _. flags c.if-has_mouse.controller ≡ flags c.test_port1.new.self) [
      | then-has_mouse w ↦ rw w.controller-is (flags_kept d (test_port TestPort2) _ _ _ w.test_port2.ensures)
      | else-has_mouse w ↦ rw w.controller-is refl
    ]
    ∙ flags_kept d (test_port TestPort1) _ _ _ c.test_port1.ensures
    ∙ flags_kept d (write_config c.set_port1_scancode_translation_enabled-config.result) _ _ _ c.write_config-2.ensures
    ∙ flags_kept d test_controller _ _ _ c.in_ok-test.ensures
    ∙ flags_kept d (write_config c.set_port1_scancode_translation_enabled-config.result) _ _ _ c.write_config.ensures
    ∙ flags_kept d read_config _ _ _ c.read_config-config.ensures
    ∙ flags_kept d flush_output_buffer _ _ _ c.flush_output_buffer.ensures
    ∙ flags_kept d (write_command DisablePort2) _ _ _ c.write_command-2.ensures
    ∙ flags_kept d (write_command DisablePort1) _ _ _ c.write_command.ensures in
    let keyboard_run : ran (said c.reset.result) c.reset.new.self.controller.now ≡ run (on_controller d) reset_keyboard c.write_config-3.new.self =
    rw c.new-keyboard_ref.ensures.now at c.reset.ensures.ran in
    let keyboard_tried = tried d reset_keyboard _ _ (hardware_ran d reset_keyboard _ _ _ keyboard_run) in
    let after_keyboard : flags c.reset.new.self.controller.now ≡ (false, false) = flags_kept d reset_keyboard _ _ _ keyboard_run ∙ none in
    let keyboard : ran c.match-reset.controller.keyboard_attached c.match-reset.controller.hardware ≡ run d (succeeds reset_keyboard) c.write_config-3.new.self.hardware =
    elim c.match-reset.branch [
      | in-Err w ↦
          let closed : c.match-reset.controller ≡ c.reset.new.self.controller.now = search rules in
          rw (closed, ap (λ (f : Bool × Bool). f.0) after_keyboard) (rw w.in-Err.is at keyboard_tried)
      | in_default w ↦
          let closed : c.match-reset.controller ≡ record c.reset.new.self.controller.now { keyboard_attached = true } = search rules in
          rw closed (rw w.in_default.is at keyboard_tried)
    ] in
    let no_mouse : c.match-reset.controller.mouse_attached ≡ false =
    elim c.match-reset.branch [
      | in-Err w ↦
          let closed : c.match-reset.controller ≡ c.reset.new.self.controller.now = search rules in
          rw closed (ap (λ (f : Bool × Bool). f.1) after_keyboard)
      | in_default w ↦
          let closed : c.match-reset.controller ≡ record c.reset.new.self.controller.now { keyboard_attached = true } = search rules in
          rw closed (ap (λ (f : Bool × Bool). f.1) after_keyboard)
    ] in
    let mouse_run : ran (said c.reset-2.result) c.reset-2.new.self.controller.now ≡ run (on_controller d) reset_mouse c.match-reset.controller =
    rw c.new-mouse_ref.ensures.now at c.reset-2.ensures.ran in
    let mouse_tried = tried d reset_mouse _ _ (hardware_ran d reset_mouse _ _ _ mouse_run) in
    let after_mouse : flags c.reset-2.new.self.controller.now ≡ flags c.match-reset.controller = flags_kept d reset_mouse _ _ _ mouse_run in
    let mouse : ran c.match-reset-2.controller.mouse_attached c.match-reset-2.controller.hardware ≡ run d (succeeds reset_mouse) c.match-reset.controller.hardware =
    elim c.match-reset-2.branch [
      | in-Err-reset w ↦
          let closed : c.match-reset-2.controller ≡ c.reset-2.new.self.controller.now = search rules in
          rw (closed, ap (λ (f : Bool × Bool). f.1) after_mouse ∙ no_mouse) (rw w.in-Err-reset.is at mouse_tried)
      | in_default-reset w ↦
          let closed : c.match-reset-2.controller ≡ record c.reset-2.new.self.controller.now { mouse_attached = true } = search rules in
          rw closed (rw w.in_default-reset.is at mouse_tried)
    ] in
    let kept : c.match-reset-2.controller.keyboard_attached ≡ c.match-reset.controller.keyboard_attached =
    elim c.match-reset-2.branch [
      | in-Err-reset w ↦
          let closed : c.match-reset-2.controller ≡ c.reset-2.new.self.controller.now = search rules in
          rw closed (ap (λ (f : Bool × Bool). f.0) after_mouse)
      | in_default-reset w ↦
          let closed : c.match-reset-2.controller ≡ record c.reset-2.new.self.controller.now { mouse_attached = true } = search rules in
          rw closed (ap (λ (f : Bool × Bool). f.0) after_mouse)
    ] in
    let last : flags c.read_config.new.self ≡ flags c.match-reset-2.controller = flags_kept d read_config _ _ _ c.read_config.ensures in
    rw (ap (λ (f : Bool × Bool). f.0) last ∙ kept, ap (λ (f : Bool × Bool). f.1) last)
    (set_up_done d r _ _ off _ passed ports _ _ _ tested on
    (devices_reset d c.match-reset.controller.keyboard_attached c.match-reset-2.controller.mouse_attached _ _ _ _ keyboard mouse (hardware_ran d read_config _ _ _ c.read_config.ensures)))
