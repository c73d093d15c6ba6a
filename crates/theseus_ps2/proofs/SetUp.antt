-- Initialisation: what its steps come to, one after another, on the controller's hardware.
use Prim.Native.Nat.{ℕ}
use mathlib.Core.Bool.{Bool, true, false, cond, ◌||◌}
use mathlib.Core.List.{List}
use mathlib.Core.Path.{◌≡◌, refl, sym, ap, ◌∙◌}
use Rattle.std.specs.Prelude.{Result, Ok, Err}
use Rattle.std.specs.Borrow.{Bor}
use Rattle.std.specs.Result.{is_ok}
use Rattle.bits.specs.Bits.{put_bit}
use Rattle.bits.proofs.Bits.{bit_put_other}
use Rattle.exchange.specs.Exchange.{Exchange, done, bind}
use Rattle.exchange.specs.Answer.{Answer, gives, refuses, and_then}
use Rattle.exchange.specs.Left.{Left, left}
use Rattle.exchange.specs.Refuses.{given, succeeds}
use Rattle.ps2_bytes.specs.declared.command.HostToControllerCommand.{HostToControllerCommand}
use Rattle.ps2_bytes.specs.declared.command.HostToControllerCommand.TheVariants.{DisablePort1, DisablePort2, EnablePort1, EnablePort2, TestPort1, TestPort2}
use Rattle.ps2_layouts.specs.declared.configuration.ControllerConfigurationByte.{ControllerConfigurationByte}
use Rattle.ps2_layouts.specs.Configuration.{port1_interrupt, port2_interrupt, port1_clock_disabled, port2_clock_disabled, port1_translation}
use Rattle.ps2_answers.specs.Refusals.{Success, success}
use Rattle.ps2_ports.specs.Ports.{write_command, flush_output_buffer, read_config, write_config}
use Rattle.ps2_polling.specs.Polling.{test_controller, test_port}
use Rattle.ps2_keyboard.specs.Keyboard.{reset_keyboard}
use Rattle.ps2_mouse.specs.Mouse.{reset_mouse}
use Rattle.ps2_setup.specs.declared.WorkingPorts.{WorkingPorts}
use Rattle.ps2_setup.specs.SetUp.{quieted, running, disable_devices, test_with, test_second, at_least_one, test_ports, enable_port, enable_ports}
use Rattle.ps2_init.specs.declared.PS2Controller.{PS2Controller}
use Rattle.ps2_init.specs.Init.{has_mouse, with_devices, reset_devices, read_last, enabled, ports_tested, tested, set_up, or_passed, initialize}
use Rattle.theseus_ps2.specs.Hardware.{Device, Ran, ran, run}
use Rattle.theseus_ps2.specs.Initialized.{ready}
use Rattle.theseus_ps2.specs.Record.{record_of}
use Rattle.theseus_ps2.specs.Controller.{on_controller}
use Rattle.theseus_ps2.specs.Messages.{said}
use Rattle.theseus_ps2.specs.declared.PS2Controller.{PS2Controller as Rusts}
use Rattle.theseus_ps2.proofs.Recorded.{run_hardware}
use Rattle.theseus_ps2.proofs.Run.{run_done, bind_steps, steps, stops}

-- whether the Rust's result is one of success
pub ok_given : {T : Type 0} (r : Result T (Bor (List ℕ))) → is_ok r ≡ given (said r)
ok_given (Ok a) = refl
ok_given (Err e) = refl

-- one port at least works
pub first_works : (first second : Bool) → first ≡ true → at_least_one first second ≡ gives (record { port_1_works = first; port_2_works = second })
first_works first second p = rw p refl

pub second_works : (first second : Bool) → second ≡ true → at_least_one first second ≡ gives (record { port_1_works = first; port_2_works = second })
second_works true second p = refl
second_works false second p = rw p refl

-- which devices are attached
abbrev pub flags : {H : Type 0} → Rusts H → Bool × Bool
flags c = (c.keyboard_attached, c.mouse_attached)

-- the mouse's bit is none of those that are cleared
pub mouse_bit : (c : ControllerConfigurationByte) → has_mouse (quieted c) ≡ has_mouse c
mouse_bit c =
    bit_put_other port2_clock_disabled port1_translation false (put_bit port2_interrupt false (put_bit port1_interrupt false c.bits)) (λ q. cc)
    ∙ bit_put_other port2_clock_disabled port2_interrupt false (put_bit port1_interrupt false c.bits) (λ q. cc)
    ∙ bit_put_other port2_clock_disabled port1_interrupt false c.bits (λ q. cc)

module _ {H : Type 0} (d : Device H) where
  -- a step of the controller is one of its hardware, and leaves the flags
  module _ {A : Type 0} (t : Exchange A) (a : A) (c c' : Rusts H) (p : ran a c' ≡ run (on_controller d) t c) where
    on_hardware : ran a c' ≡ ran (run d t c.hardware).value (record c { hardware = (run d t c.hardware).now })
    on_hardware = p ∙ run_hardware d t c

    pub hardware_ran : ran a c'.hardware ≡ run d t c.hardware
    hardware_ran = ap (λ (r : Ran (Rusts H) A). ran r.value r.now.hardware) on_hardware

    pub flags_kept : flags c' ≡ flags c
    flags_kept = ap (λ (r : Ran (Rusts H) A). flags r.now) on_hardware

  -- ---- the parts

  pub devices_disabled : (s s1 s2 s3 s4 : H) {c : ControllerConfigurationByte}
      → ran (gives success) s1 ≡ run d (write_command DisablePort1) s → ran (gives success) s2 ≡ run d (write_command DisablePort2) s1
      → ran (gives success) s3 ≡ run d flush_output_buffer s2 → ran (gives c) s4 ≡ run d read_config s3 → ran (gives c) s4 ≡ run d disable_devices s
  unfolding disable_devices
  devices_disabled s s1 s2 s3 s4 p q r t =
      t
      ∙ sym (steps d (write_command DisablePort1) (λ (_ : Success). and_then (write_command DisablePort2) (λ (_ : Success). and_then flush_output_buffer (λ (_ : Success). read_config))) s s1 p
      ∙ steps d (write_command DisablePort2) (λ (_ : Success). and_then flush_output_buffer (λ (_ : Success). read_config)) s1 s2 q
      ∙ steps d flush_output_buffer (λ (_ : Success). read_config) s2 s3 r)

  module _ (c : ControllerConfigurationByte) where
    pub test_passed : (s s1 s2 s3 : H) → ran (gives success) s1 ≡ run d (write_config c) s → ran (gives success) s2 ≡ run d test_controller s1
        → ran (gives success) s3 ≡ run d (write_config c) s2 → ran (gives success) s3 ≡ run d (test_with c) s
    unfolding test_with
    test_passed s s1 s2 s3 p q r =
        r
        ∙ sym (steps d (write_config c) (λ (_ : Success). and_then test_controller (λ (_ : Success). write_config c)) s s1 p
        ∙ steps d test_controller (λ (_ : Success). write_config c) s1 s2 q)

    pub test_failed : (s s1 s2 : H) {n : ℕ} → ran (gives success) s1 ≡ run d (write_config c) s → ran (refuses n) s2 ≡ run d test_controller s1
        → ran (refuses n) s2 ≡ run d (test_with c) s
    unfolding test_with
    test_failed s s1 s2 p q =
        stops d test_controller (λ (_ : Success). write_config c) s1 s2 q
        ∙ sym (steps d (write_config c) (λ (_ : Success). and_then test_controller (λ (_ : Success). write_config c)) s s1 p)

  pub tried : {A : Type 0} (t : Exchange (Answer A)) {a : Answer A} (s s' : H) → ran a s' ≡ run d t s → ran (given a) s' ≡ run d (succeeds t) s
  unfolding succeeds
  tried t {a} s s' p = run_done d (given a) s' ∙ sym (bind_steps d t (λ a. done (given a)) s s' p)

  pub second_with : {x : Bool} (s s' : H) → ran x s' ≡ run d (succeeds (test_port TestPort2)) s → ran x s' ≡ run d (test_second true) s
  second_with s s' p = p

  pub second_without : (s : H) → ran false s ≡ run d (test_second false) s
  second_without s = run_done d false s

  pub both_tried : (mouse first second : Bool) (s s1 s2 : H) → ran first s1 ≡ run d (succeeds (test_port TestPort1)) s → ran second s2 ≡ run d (test_second mouse) s1
      → ran (at_least_one first second) s2 ≡ run d (test_ports mouse) s
  unfolding test_ports
  both_tried mouse first second s s1 s2 p q =
      run_done d (at_least_one first second) s2
      ∙ sym (bind_steps d (succeeds (test_port TestPort1)) (λ first. bind (test_second mouse) (λ second. done (at_least_one first second))) s s1 p
      ∙ bind_steps d (test_second mouse) (λ second. done (at_least_one first second)) s1 s2 q)

  pub port_enabled : (command : HostToControllerCommand) (clock interrupt : ℕ) (c : ControllerConfigurationByte) (s s' : H)
      → ran (gives success) s' ≡ run d (write_command command) s → ran (gives (running clock interrupt c)) s' ≡ run d (enable_port command clock interrupt true c) s
  port_enabled command clock interrupt c s s' p =
      run_done d (gives (running clock interrupt c)) s'
      ∙ sym (steps d (write_command command) (λ (_ : Success). done (gives (running clock interrupt c))) s s' p)

  pub ports_enabled : (ports : WorkingPorts) (c c1 c2 : ControllerConfigurationByte) (s s1 s2 s3 : H)
      → ran (gives c1) s1 ≡ run d (enable_port EnablePort1 port1_clock_disabled port1_interrupt ports.port_1_works c) s
      → ran (gives c2) s2 ≡ run d (enable_port EnablePort2 port2_clock_disabled port2_interrupt ports.port_2_works c1) s1
      → ran (gives success) s3 ≡ run d (write_config c2) s2 → ran (gives success) s3 ≡ run d (enable_ports ports c) s
  unfolding enable_ports
  ports_enabled ports c c1 c2 s s1 s2 s3 p q r =
      r
      ∙ sym (steps d (enable_port EnablePort1 port1_clock_disabled port1_interrupt ports.port_1_works c)
      (λ c. and_then (enable_port EnablePort2 port2_clock_disabled port2_interrupt ports.port_2_works c) (λ c. write_config c)) s s1 p
      ∙ steps d (enable_port EnablePort2 port2_clock_disabled port2_interrupt ports.port_2_works c1) (λ c. write_config c) s1 s2 q)

  pub devices_reset : (keyboard mouse : Bool) {c : ControllerConfigurationByte} (s s1 s2 s3 : H)
      → ran keyboard s1 ≡ run d (succeeds reset_keyboard) s → ran mouse s2 ≡ run d (succeeds reset_mouse) s1 → ran (gives c) s3 ≡ run d read_config s2
      → ran (gives (with_devices keyboard mouse)) s3 ≡ run d (bind reset_devices read_last) s
  unfolding reset_devices
  devices_reset keyboard mouse s s1 s2 s3 p q r =
      run_done d (gives (with_devices keyboard mouse)) s3
      ∙ sym (bind_steps d reset_devices read_last s s2
      (run_done d (with_devices keyboard mouse) s2
      ∙ sym (bind_steps d (succeeds reset_keyboard) (λ keyboard. bind (succeeds reset_mouse) (λ mouse. done (with_devices keyboard mouse))) s s1 p
      ∙ bind_steps d (succeeds reset_mouse) (λ mouse. done (with_devices keyboard mouse)) s1 s2 q))
      ∙ steps d read_config (λ (_ : ControllerConfigurationByte). done (gives (with_devices keyboard mouse))) s2 s3 r)

  -- ---- all of them

  module _ (as_read : ControllerConfigurationByte) (s s1 : H) (p : ran (gives as_read) s1 ≡ run d disable_devices s) where
    from_start : run d set_up s ≡ run d (tested (quieted as_read) (has_mouse as_read)) s1
    unfolding set_up
    from_start = steps d disable_devices (λ as_read. tested (quieted as_read) (has_mouse as_read)) s s1 p

    pub set_up_tested : {n : ℕ} (s2 : H) → ran (refuses n) s2 ≡ run d (test_with (quieted as_read)) s1 → ran (refuses n) s2 ≡ run d set_up s
    set_up_tested s2 q = stops d (test_with (quieted as_read)) (λ (_ : Success). ports_tested (quieted as_read) (has_mouse as_read)) s1 s2 q ∙ sym from_start

    module _ (s2 : H) (q : ran (gives success) s2 ≡ run d (test_with (quieted as_read)) s1) where
      from_ports : run d set_up s ≡ run d (ports_tested (quieted as_read) (has_mouse as_read)) s2
      from_ports = from_start ∙ steps d (test_with (quieted as_read)) (λ (_ : Success). ports_tested (quieted as_read) (has_mouse as_read)) s1 s2 q

      pub set_up_failed : {n : ℕ} (s3 : H) → ran (refuses n) s3 ≡ run d (test_ports (has_mouse as_read)) s2 → ran (refuses n) s3 ≡ run d set_up s
      set_up_failed s3 r = stops d (test_ports (has_mouse as_read)) (enabled (quieted as_read)) s2 s3 r ∙ sym from_ports

      pub set_up_done : (ports : WorkingPorts) {controller : PS2Controller} (s3 s4 s5 : H) → ran (gives ports) s3 ≡ run d (test_ports (has_mouse as_read)) s2
          → ran (gives success) s4 ≡ run d (enable_ports ports (quieted as_read)) s3 → ran (gives controller) s5 ≡ run d (bind reset_devices read_last) s4
          → ran (gives controller) s5 ≡ run d set_up s
      set_up_done ports s3 s4 s5 r t u =
          u
          ∙ sym (from_ports ∙ steps d (test_ports (has_mouse as_read)) (enabled (quieted as_read)) s2 s3 r
          ∙ steps d (enable_ports ports (quieted as_read)) (λ (_ : Success). bind reset_devices read_last) s3 s4 t)

-- ---- on the record

module _ {H : Type 0} (d : Device H) (passed : PS2Controller) (c c' : Rusts H) where
  pub init_left : (answer : Answer Success) (is : Bool) → c.keyboard_attached ≡ passed.keyboard_attached → c.mouse_attached ≡ passed.mouse_attached
      → (passed.initialized ≡ true → (answer ≡ refuses 1) × (c' ≡ c))
      → (passed.initialized ≡ false → ran (ready answer c') c'.hardware ≡ run d set_up c.hardware) → is ≡ passed.initialized || given answer
      → ran (left answer (record_of is c'.keyboard_attached c'.mouse_attached passed)) c'.hardware ≡ run d (initialize passed) c.hardware
  unfolding initialize
  init_left answer is k m already fresh completed = by passed.initialized refl
    where
      done_with : (a : Answer Success) → left a (record_of (given a) c'.keyboard_attached c'.mouse_attached passed) ≡ or_passed passed (ready a c')
      done_with (gives x) = refl
      done_with (refuses n) = refl

      whole : Bool → Exchange (Left PS2Controller Success)
      whole y = cond y (done (left (refuses 1) passed)) (bind set_up (λ a. done (or_passed passed a)))

      by : (x : Bool) → passed.initialized ≡ x
          → ran (left answer (record_of is c'.keyboard_attached c'.mouse_attached passed)) c'.hardware
          ≡ run d (whole passed.initialized) c.hardware
      by true q =
          let a = already q in
          let same : record_of true c.keyboard_attached c.mouse_attached passed ≡ passed =
          ap (λ (x : Bool). record_of true x c.mouse_attached passed) k
          ∙ ap (λ (x : Bool). record_of true passed.keyboard_attached x passed) m
          ∙ ap (λ (x : Bool). record passed { initialized = x }) (sym q) in
          let now : is ≡ true = rw q at completed in
          ap (λ y. ran (left answer (record_of y c'.keyboard_attached c'.mouse_attached passed)) c'.hardware) now
          ∙ ap (λ y. ran (left y (record_of true c'.keyboard_attached c'.mouse_attached passed)) c'.hardware) a.0
          ∙ ap (λ (y : Rusts H). ran (left (refuses 1) (record_of true y.keyboard_attached y.mouse_attached passed)) y.hardware) a.1
          ∙ ap (λ (y : PS2Controller). ran (left (refuses 1) y) c.hardware) same ∙ run_done d (left (refuses 1) passed) c.hardware
          ∙ ap (λ y. run d (whole y) c.hardware) (sym q)
      by false q =
          let now : is ≡ given answer = rw q at completed in
          ap (λ y. ran (left answer (record_of y c'.keyboard_attached c'.mouse_attached passed)) c'.hardware) now
          ∙ ap (λ l. ran l c'.hardware) (done_with answer) ∙ run_done d (or_passed passed (ready answer c')) c'.hardware
          ∙ sym (bind_steps d set_up (λ a. done (or_passed passed a)) c.hardware c'.hardware (fresh q))
          ∙ ap (λ y. run d (whole y) c.hardware) (sym q)
