-- `ps2_init::set_up` meets its contract: the configuration as read, the tests, the ports enabled, the devices reset, each on what is left.
use Prim.Native.Nat.{ℕ, ◌*◌, ◌<◌, ◌^◌}
use native.Mathlib.Omega.{arith}
use mathlib.Core.Bool.{Bool}
use mathlib.Core.List.{List}
use mathlib.Core.Path.{◌≡◌}
use lib.ListN.{length}
use Rattle.std.specs.Prelude.{Result, Ok}
use Rattle.exchange.specs.Exchange.{bind, play, Writes}
use Rattle.exchange.specs.Parts.{part, restored}
use Rattle.exchange.specs.Position.{Reached}
use Rattle.ps2_layouts.specs.declared.configuration.ControllerConfigurationByte.{ControllerConfigurationByte}
use Rattle.ps2_answers.specs.declared.Counted.{Counted}
use Rattle.ps2_answers.specs.declared.Refusal.{Refusal}
use Rattle.ps2_answers.specs.Refusals.{Success}
use Rattle.ps2_answers.specs.Answers.{ended, used_of, pairs_of, told, behind}
use Rattle.ps2_answers.proofs.Then.{exit, writes_told, first_steps, first_stops, then_steps, then_stops, then_ends}
use Rattle.ps2_setup.specs.declared.WorkingPorts.{WorkingPorts}
use Rattle.ps2_setup.specs.SetUp.{disable_devices, quieted, test_with, test_ports, enable_ports}
use Rattle.ps2_init.specs.Init.{has_mouse, reset_devices, read_last, enabled, ports_tested, tested, set_up}
use Rattle.ps2_init.proofs.set_up.Goals as goal

-- where it has come to after each step
module _ (s l : List ℕ) (hs : length s < 2 ^ 64) (hl : length l < 2 ^ 64) {disabled : Counted ControllerConfigurationByte} {l₁ : List ℕ} (r : told (Ok disabled) l₁ ≡ play disable_devices s l)
    {config : ControllerConfigurationByte} (qc : config ≡ quieted disabled.value) {mouse : Bool} (qm : mouse ≡ has_mouse disabled.value) where
  at_disabled : Reached set_up s l (tested config mouse) disabled.used disabled.pairs l₁
  unfolding set_up
  at_disabled = rw (qc, qm) (first_steps disable_devices (λ as_read. tested (quieted as_read) (has_mouse as_read)) s l disabled r)

  module _ (t : Result (Counted Success) (Counted Refusal)) {l₂ : List ℕ} (r₂ : told t l₂ ≡ play (test_with config) (part disabled.used s) (part (2 * disabled.pairs) l₁))
      {passed : Counted Success} (q₂ : Ok passed ≡ behind disabled t) where
    at_tested : Reached set_up s l (ports_tested config mouse) passed.used passed.pairs (restored (2 * disabled.pairs) l₁ l₂)
    at_tested = then_steps hs hl disabled (test_with config) (λ _. ports_tested config mouse) at_disabled t r₂ passed q₂

    module _ (p : Result (Counted WorkingPorts) (Counted Refusal)) {l₃ : List ℕ}
        (r₃ : told p l₃ ≡ play (test_ports mouse) (part passed.used s) (part (2 * passed.pairs) (restored (2 * disabled.pairs) l₁ l₂)))
        {working : Counted WorkingPorts} (q₃ : Ok working ≡ behind passed p) where
      at_working : Reached set_up s l (enabled config working.value) working.used working.pairs (restored (2 * passed.pairs) (restored (2 * disabled.pairs) l₁ l₂) l₃)
      at_working = then_steps hs hl passed (test_ports mouse) (enabled config) at_tested p r₃ working q₃

      module _ (e : Result (Counted Success) (Counted Refusal)) {l₄ : List ℕ}
          (r₄ : Writes (enable_ports working.value config) (part (2 * working.pairs) (restored (2 * passed.pairs) (restored (2 * disabled.pairs) l₁ l₂) l₃)) (ended e) (used_of e) (pairs_of e) l₄)
          {on : Counted Success} (q₄ : Ok on ≡ behind working e) where
        at_enabled : Reached set_up s l (bind reset_devices read_last) on.used on.pairs
            (restored (2 * working.pairs) (restored (2 * passed.pairs) (restored (2 * disabled.pairs) l₁ l₂) l₃) l₄)
        at_enabled = then_steps hs hl working (enable_ports working.value config) (λ _. bind reset_devices read_last) at_working e (writes_told e r₄ (part working.used s)) on q₄

pub returns-in_err-disabled : goal.returns-in_err-disabled
unfolding set_up
returns-in_err-disabled c =
    rw (exit _ _ c.from_residual.ensures.1) (first_stops disable_devices (λ as_read. tested (quieted as_read) (has_mouse as_read)) _ _ _ c.in_err-disabled.ensures)

pub returns-in_err-tested : goal.returns-in_err-tested
returns-in_err-tested c =
    rw (exit _ _ c.from_residual-in_err-tested.ensures.1)
    (then_stops (omega (arith, c.well_formed)) (omega (arith, c.well_formed)) c.in_ok-disabled.disabled (test_with c.quieted-config.result) (λ _. ports_tested c.quieted-config.result c.port2_clock_disabled-has_mouse.result)
    (at_disabled _ _ (omega (arith, c.well_formed)) (omega (arith, c.well_formed)) c.in_ok-disabled.ensures c.quieted-config.ensures c.port2_clock_disabled-has_mouse.ensures) _ c.test_with.ensures _ c.in_err-tested.ensures)

pub returns-in_err-working : goal.returns-in_err-working
returns-in_err-working c =
    rw (exit _ _ c.from_residual-in_err-working.ensures.1)
    (then_stops (omega (arith, c.well_formed)) (omega (arith, c.well_formed)) c.in_ok-tested.tested (test_ports c.port2_clock_disabled-has_mouse.result) (enabled c.quieted-config.result)
    (at_tested _ _ (omega (arith, c.well_formed)) (omega (arith, c.well_formed)) c.in_ok-disabled.ensures c.quieted-config.ensures c.port2_clock_disabled-has_mouse.ensures _ c.test_with.ensures c.in_ok-tested.ensures) _ c.test_ports.ensures _ c.in_err-working.ensures)

pub returns-in_err-enabled : goal.returns-in_err-enabled
returns-in_err-enabled c =
    rw (exit _ _ c.from_residual-in_err-enabled.ensures.1)
    (then_stops (omega (arith, c.well_formed)) (omega (arith, c.well_formed)) c.in_ok-working.working (enable_ports c.in_ok-working.working.value c.quieted-config.result) (λ _. bind reset_devices read_last)
    (at_working _ _ (omega (arith, c.well_formed)) (omega (arith, c.well_formed)) c.in_ok-disabled.ensures c.quieted-config.ensures c.port2_clock_disabled-has_mouse.ensures _ c.test_with.ensures c.in_ok-tested.ensures _ c.test_ports.ensures c.in_ok-working.ensures) _ (writes_told _ c.enable_ports.ensures _) _ c.in_err-enabled.ensures)

pub returns : goal.returns
returns c =
    rw c.then-4.ensures
    (then_ends (omega (arith, c.well_formed)) (omega (arith, c.well_formed)) c.in_ok-enabled.enabled (bind reset_devices read_last) (at_enabled _ _ (omega (arith, c.well_formed)) (omega (arith, c.well_formed)) c.in_ok-disabled.ensures c.quieted-config.ensures c.port2_clock_disabled-has_mouse.ensures _ c.test_with.ensures c.in_ok-tested.ensures _ c.test_ports.ensures c.in_ok-working.ensures _ c.enable_ports.ensures c.in_ok-enabled.ensures) _ c.reset_devices.ensures)

pub slice_bounds-test_with-count : goal.slice_bounds-test_with-count
slice_bounds-test_with-count c = (at_disabled _ _ (omega (arith, c.well_formed)) (omega (arith, c.well_formed)) c.in_ok-disabled.ensures c.quieted-config.ensures c.port2_clock_disabled-has_mouse.ensures).used_le

pub slice_bounds-test_with-start : goal.slice_bounds-test_with-start
slice_bounds-test_with-start c = (at_disabled _ _ (omega (arith, c.well_formed)) (omega (arith, c.well_formed)) c.in_ok-disabled.ensures c.quieted-config.ensures c.port2_clock_disabled-has_mouse.ensures).used_le

pub overflow_mul-disabled : goal.overflow_mul-disabled
overflow_mul-disabled c =
    let at = (at_disabled _ _ (omega (arith, c.well_formed)) (omega (arith, c.well_formed)) c.in_ok-disabled.ensures c.quieted-config.ensures c.port2_clock_disabled-has_mouse.ensures) in
    omega (arith, at.pairs_le, at.same_length, c.well_formed)

pub slice_bounds-test_with-count-2 : goal.slice_bounds-test_with-count-2
slice_bounds-test_with-count-2 c = (at_disabled _ _ (omega (arith, c.well_formed)) (omega (arith, c.well_formed)) c.in_ok-disabled.ensures c.quieted-config.ensures c.port2_clock_disabled-has_mouse.ensures).pairs_le

pub slice_bounds-test_with-start-2 : goal.slice_bounds-test_with-start-2
slice_bounds-test_with-start-2 c = (at_disabled _ _ (omega (arith, c.well_formed)) (omega (arith, c.well_formed)) c.in_ok-disabled.ensures c.quieted-config.ensures c.port2_clock_disabled-has_mouse.ensures).pairs_le

pub slice_bounds-test_ports-count : goal.slice_bounds-test_ports-count
slice_bounds-test_ports-count c = (at_tested _ _ (omega (arith, c.well_formed)) (omega (arith, c.well_formed)) c.in_ok-disabled.ensures c.quieted-config.ensures c.port2_clock_disabled-has_mouse.ensures _ c.test_with.ensures c.in_ok-tested.ensures).used_le

pub slice_bounds-test_ports-start : goal.slice_bounds-test_ports-start
slice_bounds-test_ports-start c = (at_tested _ _ (omega (arith, c.well_formed)) (omega (arith, c.well_formed)) c.in_ok-disabled.ensures c.quieted-config.ensures c.port2_clock_disabled-has_mouse.ensures _ c.test_with.ensures c.in_ok-tested.ensures).used_le

pub overflow_mul-tested : goal.overflow_mul-tested
overflow_mul-tested c =
    let at = (at_tested _ _ (omega (arith, c.well_formed)) (omega (arith, c.well_formed)) c.in_ok-disabled.ensures c.quieted-config.ensures c.port2_clock_disabled-has_mouse.ensures _ c.test_with.ensures c.in_ok-tested.ensures) in
    omega (arith, at.pairs_le, at.same_length, c.well_formed)

pub slice_bounds-test_ports-count-2 : goal.slice_bounds-test_ports-count-2
slice_bounds-test_ports-count-2 c = (at_tested _ _ (omega (arith, c.well_formed)) (omega (arith, c.well_formed)) c.in_ok-disabled.ensures c.quieted-config.ensures c.port2_clock_disabled-has_mouse.ensures _ c.test_with.ensures c.in_ok-tested.ensures).pairs_le

pub slice_bounds-test_ports-start-2 : goal.slice_bounds-test_ports-start-2
slice_bounds-test_ports-start-2 c = (at_tested _ _ (omega (arith, c.well_formed)) (omega (arith, c.well_formed)) c.in_ok-disabled.ensures c.quieted-config.ensures c.port2_clock_disabled-has_mouse.ensures _ c.test_with.ensures c.in_ok-tested.ensures).pairs_le

pub overflow_mul-working : goal.overflow_mul-working
overflow_mul-working c =
    let at = (at_working _ _ (omega (arith, c.well_formed)) (omega (arith, c.well_formed)) c.in_ok-disabled.ensures c.quieted-config.ensures c.port2_clock_disabled-has_mouse.ensures _ c.test_with.ensures c.in_ok-tested.ensures _ c.test_ports.ensures c.in_ok-working.ensures) in
    omega (arith, at.pairs_le, at.same_length, c.well_formed)

pub slice_bounds-enable_ports-count : goal.slice_bounds-enable_ports-count
slice_bounds-enable_ports-count c = (at_working _ _ (omega (arith, c.well_formed)) (omega (arith, c.well_formed)) c.in_ok-disabled.ensures c.quieted-config.ensures c.port2_clock_disabled-has_mouse.ensures _ c.test_with.ensures c.in_ok-tested.ensures _ c.test_ports.ensures c.in_ok-working.ensures).pairs_le

pub slice_bounds-enable_ports-start : goal.slice_bounds-enable_ports-start
slice_bounds-enable_ports-start c = (at_working _ _ (omega (arith, c.well_formed)) (omega (arith, c.well_formed)) c.in_ok-disabled.ensures c.quieted-config.ensures c.port2_clock_disabled-has_mouse.ensures _ c.test_with.ensures c.in_ok-tested.ensures _ c.test_ports.ensures c.in_ok-working.ensures).pairs_le

pub slice_bounds-reset_devices-count : goal.slice_bounds-reset_devices-count
slice_bounds-reset_devices-count c = (at_enabled _ _ (omega (arith, c.well_formed)) (omega (arith, c.well_formed)) c.in_ok-disabled.ensures c.quieted-config.ensures c.port2_clock_disabled-has_mouse.ensures _ c.test_with.ensures c.in_ok-tested.ensures _ c.test_ports.ensures c.in_ok-working.ensures _ c.enable_ports.ensures c.in_ok-enabled.ensures).used_le

pub slice_bounds-reset_devices-start : goal.slice_bounds-reset_devices-start
slice_bounds-reset_devices-start c = (at_enabled _ _ (omega (arith, c.well_formed)) (omega (arith, c.well_formed)) c.in_ok-disabled.ensures c.quieted-config.ensures c.port2_clock_disabled-has_mouse.ensures _ c.test_with.ensures c.in_ok-tested.ensures _ c.test_ports.ensures c.in_ok-working.ensures _ c.enable_ports.ensures c.in_ok-enabled.ensures).used_le

pub overflow_mul-enabled : goal.overflow_mul-enabled
overflow_mul-enabled c =
    let at = (at_enabled _ _ (omega (arith, c.well_formed)) (omega (arith, c.well_formed)) c.in_ok-disabled.ensures c.quieted-config.ensures c.port2_clock_disabled-has_mouse.ensures _ c.test_with.ensures c.in_ok-tested.ensures _ c.test_ports.ensures c.in_ok-working.ensures _ c.enable_ports.ensures c.in_ok-enabled.ensures) in
    omega (arith, at.pairs_le, at.same_length, c.well_formed)

pub slice_bounds-reset_devices-count-2 : goal.slice_bounds-reset_devices-count-2
slice_bounds-reset_devices-count-2 c = (at_enabled _ _ (omega (arith, c.well_formed)) (omega (arith, c.well_formed)) c.in_ok-disabled.ensures c.quieted-config.ensures c.port2_clock_disabled-has_mouse.ensures _ c.test_with.ensures c.in_ok-tested.ensures _ c.test_ports.ensures c.in_ok-working.ensures _ c.enable_ports.ensures c.in_ok-enabled.ensures).pairs_le

pub slice_bounds-reset_devices-start-2 : goal.slice_bounds-reset_devices-start-2
slice_bounds-reset_devices-start-2 c = (at_enabled _ _ (omega (arith, c.well_formed)) (omega (arith, c.well_formed)) c.in_ok-disabled.ensures c.quieted-config.ensures c.port2_clock_disabled-has_mouse.ensures _ c.test_with.ensures c.in_ok-tested.ensures _ c.test_ports.ensures c.in_ok-working.ensures _ c.enable_ports.ensures c.in_ok-enabled.ensures).pairs_le
