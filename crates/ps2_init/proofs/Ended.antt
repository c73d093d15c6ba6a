-- What initialisation refuses with, and the record that it leaves.
use Prim.Native.Nat.{ℕ}
use mathlib.Core.Bool.{Bool, true, false, cond, ◌||◌}
use mathlib.Core.List.{List, [], ◌∷◌}
use mathlib.Core.Path.{◌≡◌, refl}
use Rattle.exchange.specs.Exchange.{done, bind}
use Rattle.exchange.specs.Answer.{Answer, gives, refuses}
use Rattle.exchange.specs.Left.{left}
use Rattle.exchange.specs.Only.{Only, only_done, only_read, only_write}
use Rattle.exchange.specs.Refuses.{RefusesWith, Refuses}
use Rattle.exchange.proofs.Only.{only_bind}
use Rattle.exchange.proofs.Then.{on_cond, only_any, only_then, refuses_then, among_one}
use Rattle.ps2_bytes.specs.declared.command.HostToControllerCommand.{HostToControllerCommand}
use Rattle.ps2_bytes.specs.declared.command.HostToControllerCommand.TheVariants.{DisablePort1, DisablePort2, EnablePort1, EnablePort2}
use Rattle.ps2_layouts.specs.declared.configuration.ControllerConfigurationByte.{ControllerConfigurationByte}
use Rattle.ps2_layouts.specs.Configuration.{port1_interrupt, port2_interrupt, port1_clock_disabled, port2_clock_disabled}
use Rattle.ps2_ports.specs.Ports.{write_port, write_command, flush_output_buffer, read_config, write_config}
use Rattle.ps2_polling.proofs.Refuses.{refuses_test}
use Rattle.ps2_init.specs.declared.PS2Controller.{PS2Controller}
use Rattle.ps2_init.specs.Ended.{Ended, already, ready, controller_failed, ports_failed}
use Rattle.ps2_setup.specs.declared.WorkingPorts.{WorkingPorts}
use Rattle.ps2_setup.specs.SetUp.{quieted, disable_devices, test_with, test_second, test_ports, enable_port, enable_ports}
use Rattle.ps2_init.specs.Init.{has_mouse, reset_devices, set_up, or_passed, initialize}

-- ---- what each step refuses with: 8 the controller's test, 9 the ports' tests, nothing the others

module _ (ns : List ℕ) where
  refuses_command : (c : HostToControllerCommand) → Refuses ns (write_command c)
  unfolding write_port
  refuses_command c = only_write (only_done tt)

  refuses_read_config : Refuses ns read_config
  unfolding read_config
  refuses_read_config = only_write (only_read (λ b. only_done tt))

  refuses_write_config : (c : ControllerConfigurationByte) → Refuses ns (write_config c)
  unfolding write_config
  refuses_write_config c = only_write (only_write (only_done tt))

refuses_disable_devices : Refuses [] disable_devices
unfolding disable_devices flush_output_buffer
refuses_disable_devices =
    refuses_then [] (refuses_command [] DisablePort1)
    (λ _. refuses_then [] (refuses_command [] DisablePort2) (λ _. refuses_then [] (only_read (λ b. only_done tt)) (λ _. refuses_read_config [])))

refuses_test_with : (c : ControllerConfigurationByte) → Refuses (8 ∷ []) (test_with c)
unfolding test_with
refuses_test_with c =
    refuses_then (8 ∷ []) (refuses_write_config (8 ∷ []) c) (λ _. refuses_then (8 ∷ []) refuses_test (λ _. refuses_write_config (8 ∷ []) c))

refuses_test_ports : (mouse : Bool) → Refuses (9 ∷ []) (test_ports mouse)
unfolding test_ports
refuses_test_ports mouse =
    only_bind (only_any _)
    (λ first _. only_bind (only_any (test_second mouse))
    (λ second _. only_done (on_cond (λ x. RefusesWith {A = WorkingPorts} (9 ∷ []) x) (first || second) tt tt)))

refuses_enable_port : (command : HostToControllerCommand) (clock interrupt : ℕ) (passed : Bool) (c : ControllerConfigurationByte) → Refuses [] (enable_port command clock interrupt passed c)
refuses_enable_port command clock interrupt true c = refuses_then [] (refuses_command [] command) (λ _. only_done tt)
refuses_enable_port command clock interrupt false c = only_done tt

refuses_enable_ports : (ports : WorkingPorts) (c : ControllerConfigurationByte) → Refuses [] (enable_ports ports c)
unfolding enable_ports
refuses_enable_ports ports c =
    refuses_then [] (refuses_enable_port EnablePort1 port1_clock_disabled port1_interrupt ports.port_1_works c)
    (λ c. refuses_then [] (refuses_enable_port EnablePort2 port2_clock_disabled port2_interrupt ports.port_2_works c) (λ c. refuses_write_config [] c))

-- ---- all of them

-- what the steps give: an initialised controller, or 8 or 9
data SetUp : Answer PS2Controller → Type 0 where
  done_so : {keyboard mouse : Bool} → SetUp (gives (record { initialized = true; keyboard_attached = keyboard; mouse_attached = mouse }))
  no_controller : SetUp (refuses 8)
  no_ports : SetUp (refuses 9)

only_reset_devices : Only (λ c. SetUp (gives c)) reset_devices
unfolding reset_devices
only_reset_devices = only_bind (only_any _) (λ keyboard _. only_bind (only_any _) (λ mouse _. only_done done_so))

only_set_up : Only SetUp set_up
unfolding set_up
only_set_up =
    only_then [] refuses_disable_devices (λ n x. absurd x)
    (λ as_read. only_then (8 ∷ []) (refuses_test_with (quieted as_read)) (λ n x. rw (among_one n 8 x) no_controller)
    (λ _. only_then (9 ∷ []) (refuses_test_ports (has_mouse as_read)) (λ n x. rw (among_one n 9 x) no_ports)
    (λ ports. only_then [] (refuses_enable_ports ports (quieted as_read)) (λ n x. absurd x)
    (λ _. only_bind only_reset_devices (λ c h. only_then [] (refuses_read_config []) (λ n x. absurd x) (λ _. only_done h))))))

-- ---- on the record

module _ (passed : PS2Controller) where
  by_answer : passed.initialized ≡ false → (a : Answer PS2Controller) → SetUp a → Ended passed (or_passed passed a)
  by_answer q a done_so = ready q
  by_answer q a no_controller = controller_failed q
  by_answer q a no_ports = ports_failed q

  ends_by : (was : Bool) → passed.initialized ≡ was → Only (Ended passed) (cond was (done (left (refuses 1) passed)) (bind set_up (λ a. done (or_passed passed a))))
  ends_by true q = only_done (already q)
  ends_by false q = only_bind only_set_up (λ a h. only_done (by_answer q a h))

  -- 1, 8 and 9 leave the record as it was passed, and there is no other refusal
  pub initialize_ends : Only (Ended passed) (initialize passed)
  unfolding initialize
  initialize_ends = ends_by passed.initialized refl
