-- `ps2_setup::enable_ports` meets its contract: the first port, the second, and the configuration, each on the log's tail.
use Prim.Native.Nat.{ℕ, ◌*◌, ◌<◌, ◌^◌}
use native.Mathlib.Omega.{arith}
use mathlib.Core.List.{List, []}
use mathlib.Core.Path.{◌≡◌}
use lib.ListN.{length}
use Rattle.std.specs.Prelude.{Result, Ok}
use Rattle.exchange.specs.Exchange.{Exchange, Writes}
use Rattle.exchange.specs.Answer.{Answer, and_then}
use Rattle.exchange.specs.Parts.{part, restored}
use Rattle.exchange.proofs.Counts.{counts}
use Rattle.ps2_bytes.specs.declared.command.HostToControllerCommand.TheVariants.{EnablePort1, EnablePort2}
use Rattle.ps2_layouts.specs.declared.configuration.ControllerConfigurationByte.{ControllerConfigurationByte}
use Rattle.ps2_layouts.specs.Configuration.{port1_interrupt, port2_interrupt, port1_clock_disabled, port2_clock_disabled}
use Rattle.ps2_answers.specs.declared.Counted.{Counted}
use Rattle.ps2_answers.specs.declared.Refusal.{Refusal}
use Rattle.ps2_answers.specs.Refusals.{Success}
use Rattle.ps2_answers.specs.Answers.{ended, used_of, pairs_of, behind}
use Rattle.ps2_answers.proofs.Then.{exit, writes_first_stops}
use Rattle.ps2_ports.specs.Ports.{write_config}
use Rattle.ps2_setup.specs.declared.WorkingPorts.{WorkingPorts}
use Rattle.ps2_setup.specs.SetUp.{enable_port, enable_ports}
use Rattle.ps2_setup.proofs.Writing.{Written, write_first, write_then_steps, write_then_stops, write_then_ends}
use Rattle.ps2_setup.proofs.enable_ports.Goals as goal

-- where it has come to when the first port is enabled, and when both are
module _ (ports : WorkingPorts) (config : ControllerConfigurationByte) where
  abbrev port1 : Exchange (Answer ControllerConfigurationByte)
  port1 = enable_port EnablePort1 port1_clock_disabled port1_interrupt ports.port_1_works config

  abbrev port2 : ControllerConfigurationByte → Exchange (Answer ControllerConfigurationByte)
  port2 c = enable_port EnablePort2 port2_clock_disabled port2_interrupt ports.port_2_works c

  abbrev config_next : ControllerConfigurationByte → Exchange (Answer Success)
  config_next c = write_config c

  abbrev port2_next : ControllerConfigurationByte → Exchange (Answer Success)
  port2_next c = and_then (port2 c) config_next

  module _ {l : List ℕ} (hl : length l < 2 ^ 64) {one : Counted ControllerConfigurationByte} {l₁ : List ℕ} (r : Writes port1 l (ended (Ok one)) one.used one.pairs l₁) where
    at_one : Written (enable_ports ports config) l (port2_next one.value) one.used one.pairs l₁
    unfolding enable_ports
    at_one = write_first port1 port2_next l one r

    at_both : (b : Result (Counted ControllerConfigurationByte) (Counted Refusal)) {m : List ℕ} → Writes (port2 one.value) (part (2 * one.pairs) l₁) (ended b) (used_of b) (pairs_of b) m
        → {both : Counted ControllerConfigurationByte} → Ok both ≡ behind one b
        → Written (enable_ports ports config) l (config_next both.value) both.used both.pairs (restored (2 * one.pairs) l₁ m)
    at_both b r₂ {both} q = write_then_steps hl one (port2 one.value) config_next at_one b r₂ both q

pub returns-in_err-one : goal.returns-in_err-one
unfolding enable_ports
returns-in_err-one c =
    let a = c.args in
    rw (exit _ _ c.from_residual.ensures.1) (writes_first_stops (port1 a.ports a.config) (port2_next a.ports a.config) _ _ c.in_err-one.ensures)

pub returns-in_err-both : goal.returns-in_err-both
returns-in_err-both c =
    let a = c.args in
    let one = c.in_ok-one.one in
    rw (exit _ _ c.from_residual-in_err-both.ensures.1)
    (write_then_stops (omega (arith, c.well_formed)) one (port2 a.ports a.config one.value) (config_next a.ports a.config)
    (at_one a.ports a.config (omega (arith, c.well_formed)) c.in_ok-one.ensures) _ c.enable_port-2.ensures _ c.in_err-both.ensures)

pub returns : goal.returns
returns c =
    rw c.then-2.ensures
    (write_then_ends (omega (arith, c.well_formed)) c.in_ok-both.both (write_config c.in_ok-both.both.value)
    (at_both c.args.ports c.args.config (omega (arith, c.well_formed)) c.in_ok-one.ensures _ c.enable_port-2.ensures c.in_ok-both.ensures) _ c.write_config.ensures)

pub overflow_mul-one : goal.overflow_mul-one
overflow_mul-one c = search (counts, c.in_ok-one.ensures)

pub slice_bounds-enable_port-count : goal.slice_bounds-enable_port-count
slice_bounds-enable_port-count c = search (counts, c.in_ok-one.ensures)

pub slice_bounds-enable_port-start : goal.slice_bounds-enable_port-start
slice_bounds-enable_port-start c = search (counts, c.in_ok-one.ensures)

pub overflow_mul-both : goal.overflow_mul-both
overflow_mul-both c =
    let at = (at_both c.args.ports c.args.config (omega (arith, c.well_formed)) c.in_ok-one.ensures _ c.enable_port-2.ensures c.in_ok-both.ensures).with_any [] in
    omega (arith, at.pairs_le, at.same_length, c.well_formed)

pub slice_bounds-write_config-count : goal.slice_bounds-write_config-count
slice_bounds-write_config-count c =
    ((at_both c.args.ports c.args.config (omega (arith, c.well_formed)) c.in_ok-one.ensures _ c.enable_port-2.ensures c.in_ok-both.ensures).with_any []).pairs_le

pub slice_bounds-write_config-start : goal.slice_bounds-write_config-start
slice_bounds-write_config-start c =
    ((at_both c.args.ports c.args.config (omega (arith, c.well_formed)) c.in_ok-one.ensures _ c.enable_port-2.ensures c.in_ok-both.ensures).with_any []).pairs_le
