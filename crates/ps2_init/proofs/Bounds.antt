-- The most reads and writes of initialisation, 1,837,024 and 24, and a script that takes them.
use Prim.Native.Nat.{ℕ}
use native.Mathlib.Omega.{arith}
use mathlib.Core.Bool.{Bool, true, false, cond}
use Rattle.bits.specs.Bits.{bit, odd}
use Rattle.exchange.specs.Exchange.{done, bind}
use Rattle.exchange.specs.Answer.{gives, refuses}
use Rattle.exchange.specs.Attains.{Attains, attains_done, attains_read, attains_write, Most}
use Rattle.exchange.specs.Bounds.{Within, within_done, within_read, within_write}
use Rattle.exchange.specs.Left.{left}
use Rattle.exchange.proofs.Attains.{attains_bind}
use Rattle.exchange.proofs.Bounds.{within_bind}
use Rattle.exchange.proofs.Then.{within_then, attains_then, within_told, attains_told, within_succeeds, attains_succeeds}
use Rattle.ps2_bytes.specs.declared.command.HostToControllerCommand.{HostToControllerCommand}
use Rattle.ps2_bytes.specs.declared.command.HostToControllerCommand.TheVariants.{EnablePort1, EnablePort2, TestPort1, TestPort2}
use Rattle.ps2_layouts.specs.declared.configuration.ControllerConfigurationByte.{ControllerConfigurationByte}
use Rattle.ps2_layouts.specs.Configuration.{port1_interrupt, port2_interrupt, port1_clock_disabled, port2_clock_disabled}
use Rattle.ps2_answers.specs.Refusals.{success}
use Rattle.ps2_ports.specs.Ports.{write_port, flush_output_buffer, read_config, write_config}
use Rattle.ps2_polling.proofs.Bounds.{within_test, within_test_port}
use Rattle.ps2_polling.proofs.Attained.{attains_test, attains_test_port}
use Rattle.ps2_keyboard.proofs.Bounds.{within_reset_keyboard, attains_reset_keyboard}
use Rattle.ps2_mouse.proofs.Bounds.{most_reset_mouse}
use Rattle.ps2_init.specs.declared.PS2Controller.{PS2Controller}
use Rattle.ps2_setup.specs.declared.WorkingPorts.{WorkingPorts}
use Rattle.ps2_setup.specs.SetUp.{config, quieted, running, disable_devices, test_with, test_second, at_least_one, test_ports, enable_port, enable_ports}
use Rattle.ps2_init.specs.Init.{has_mouse, reset_devices, set_up, or_passed, initialize}

-- ---- each step

within_disable_devices : Within 2 3 disable_devices
unfolding disable_devices write_port flush_output_buffer read_config
within_disable_devices =
    within_then (within_write {r = 0} {w = 0} within_done)
    (λ _. within_then (within_write {r = 0} {w = 0} within_done)
    (λ _. within_then (within_read (λ b. within_done {r = 0} {w = 0})) (λ _. within_write (within_read (λ b. within_done {r = 0} {w = 0})))))

-- a configuration with bit 5 set
attains_disable_devices : Attains (gives (config 0x20)) 2 3 disable_devices
unfolding disable_devices write_port flush_output_buffer read_config
attains_disable_devices =
    attains_then _ (attains_write attains_done)
    (attains_then _ (attains_write attains_done)
    (attains_then (λ _. read_config) (attains_read 0 (omega arith) attains_done) (attains_write (attains_read 0x20 (omega arith) attains_done))))

module _ (c : ControllerConfigurationByte) where
  within_write_config : Within 0 2 (write_config c)
  unfolding write_config
  within_write_config = within_write (within_write within_done)

  attains_write_config : Attains (gives success) 0 2 (write_config c)
  unfolding write_config
  attains_write_config = attains_write (attains_write attains_done)

  within_test_with : Within 65535 5 (test_with c)
  unfolding test_with
  within_test_with = within_then within_write_config (λ _. within_then within_test (λ _. within_write_config))

  attains_test_with : Attains (gives success) 65535 5 (test_with c)
  unfolding test_with
  attains_test_with = attains_then _ attains_write_config (attains_then (λ _. write_config c) attains_test attains_write_config)

within_test_second : (mouse : Bool) → Within 131070 1 (test_second mouse)
within_test_second true = within_succeeds (within_test_port TestPort2)
within_test_second false = within_done

within_test_ports : (mouse : Bool) → Within 262140 2 (test_ports mouse)
unfolding test_ports
within_test_ports mouse =
    within_bind (within_succeeds (within_test_port TestPort1)) (λ first. within_told (λ second. at_least_one first second) (within_test_second mouse))

abbrev both : WorkingPorts
both = record { port_1_works = true; port_2_works = true }

attains_test_ports : Attains (gives both) 262140 2 (test_ports true)
unfolding test_ports
attains_test_ports =
    attains_bind _ (attains_succeeds (attains_test_port TestPort1)) (attains_told (λ second. at_least_one true second) (attains_succeeds (attains_test_port TestPort2)))

module _ (command : HostToControllerCommand) (clock interrupt : ℕ) where
  within_enable_port : (passed : Bool) (c : ControllerConfigurationByte) → Within 0 1 (enable_port command clock interrupt passed c)
  unfolding write_port
  within_enable_port true c = within_then (within_write {r = 0} {w = 0} within_done) (λ _. within_done {r = 0} {w = 0})
  within_enable_port false c = within_done

  attains_enable_port : (c : ControllerConfigurationByte) → Attains (gives (running clock interrupt c)) 0 1 (enable_port command clock interrupt true c)
  unfolding write_port
  attains_enable_port c = attains_then _ (attains_write attains_done) attains_done

within_enable_ports : (ports : WorkingPorts) (c : ControllerConfigurationByte) → Within 0 4 (enable_ports ports c)
unfolding enable_ports
within_enable_ports ports c =
    within_then (within_enable_port EnablePort1 port1_clock_disabled port1_interrupt ports.port_1_works c)
    (λ c. within_then (within_enable_port EnablePort2 port2_clock_disabled port2_interrupt ports.port_2_works c) (λ c. within_write_config c))

attains_enable_ports : (c : ControllerConfigurationByte) → Attains (gives success) 0 4 (enable_ports both c)
unfolding enable_ports
attains_enable_ports c =
    attains_then _ (attains_enable_port EnablePort1 port1_clock_disabled port1_interrupt c)
    (attains_then (λ c. write_config c) (attains_enable_port EnablePort2 port2_clock_disabled port2_interrupt (running port1_clock_disabled port1_interrupt c))
    (attains_write_config _))

abbrev found : PS2Controller
found = record { initialized = true; keyboard_attached = true; mouse_attached = true }

within_reset_devices : Within 1509346 9 reset_devices
unfolding reset_devices
within_reset_devices = within_bind (within_succeeds within_reset_keyboard) (λ keyboard. within_told _ (within_succeeds most_reset_mouse.within))

attains_reset_devices : Attains found 1509346 9 reset_devices
unfolding reset_devices most_reset_mouse
attains_reset_devices = attains_bind _ (attains_succeeds attains_reset_keyboard) (attains_told _ (attains_succeeds most_reset_mouse.attains))

-- ---- all of them

within_set_up : Within 1837024 24 set_up
unfolding set_up read_config
within_set_up =
    within_then within_disable_devices
    (λ as_read. within_then (within_test_with (quieted as_read))
    (λ _. within_then (within_test_ports (has_mouse as_read))
    (λ ports. within_then (within_enable_ports ports (quieted as_read))
    (λ _. within_bind within_reset_devices
    (λ controller. within_then (within_write (within_read (λ b. within_done {r = 0} {w = 0}))) (λ _. within_done {r = 0} {w = 0}))))))

attains_set_up : Attains (gives found) 1837024 24 set_up
unfolding set_up read_config bit odd
attains_set_up =
    attains_then _ attains_disable_devices
    (attains_then _ (attains_test_with (quieted (config 0x20)))
    (attains_then _ attains_test_ports
    (attains_then _ (attains_enable_ports (quieted (config 0x20)))
    (attains_bind _ attains_reset_devices
    (attains_then _ (attains_write (attains_read 0 (omega arith) attains_done)) attains_done)))))

-- ---- on the record: nothing at all where the controller is initialised

within_by : (passed : PS2Controller) (was : Bool) → Within 1837024 24 (cond was (done (left (refuses 1) passed)) (bind set_up (λ a. done (or_passed passed a))))
within_by passed true = within_done
within_by passed false = within_told (λ a. or_passed passed a) within_set_up

pub within_initialize : (passed : PS2Controller) → Within 1837024 24 (initialize passed)
unfolding initialize
within_initialize passed = within_by passed passed.initialized

pub most_initialize : (keyboard mouse : Bool) → Most 1837024 24 (initialize (record { initialized = false; keyboard_attached = keyboard; mouse_attached = mouse }))
unfolding initialize
most_initialize keyboard mouse =
    let passed : PS2Controller = record { initialized = false; keyboard_attached = keyboard; mouse_attached = mouse } in
    record {
      within = within_told (λ a. or_passed passed a) within_set_up;
      yielded = left (gives success) found;
      attains = attains_told (λ a. or_passed passed a) attains_set_up;
    }

pub nothing_again : (keyboard mouse : Bool) → Within 0 0 (initialize (record { initialized = true; keyboard_attached = keyboard; mouse_attached = mouse }))
unfolding initialize
nothing_again keyboard mouse = within_done
