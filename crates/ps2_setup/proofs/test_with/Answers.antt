-- `ps2_setup::test_with` meets its contract: the configuration, the test, and the configuration again.
use Prim.Native.Nat.{ℕ, ◌*◌, ◌<◌, ◌^◌}
use native.Mathlib.Omega.{arith}
use mathlib.Core.List.{List}
use mathlib.Core.Path.{◌≡◌}
use lib.ListN.{length}
use Rattle.std.specs.Prelude.{Result, Ok, Err}
use Rattle.exchange.specs.Exchange.{Exchange, play, Writes}
use Rattle.exchange.specs.Answer.{Answer, and_then}
use Rattle.exchange.specs.Parts.{part, restored}
use Rattle.exchange.specs.Position.{Reached}
use Rattle.exchange.proofs.Counts.{counts}
use Rattle.ps2_layouts.specs.declared.configuration.ControllerConfigurationByte.{ControllerConfigurationByte}
use Rattle.ps2_answers.specs.declared.Counted.{Counted}
use Rattle.ps2_answers.specs.declared.Refusal.{Refusal}
use Rattle.ps2_answers.specs.Refusals.{Success}
use Rattle.ps2_answers.specs.Answers.{ended, told, behind}
use Rattle.ps2_answers.proofs.Then.{exit, all_left, writes_told, first_steps, first_stops, then_steps, then_stops, then_ends}
use Rattle.ps2_ports.specs.Ports.{write_config}
use Rattle.ps2_polling.specs.Polling.{test_controller}
use Rattle.ps2_setup.specs.SetUp.{test_with}
use Rattle.ps2_setup.proofs.test_with.Goals as goal

-- where it has come to when the configuration is written, and when the test has passed
module _ (config : ControllerConfigurationByte) where
  abbrev restore : Success → Exchange (Answer Success)
  restore _ = write_config config

  abbrev test_next : Success → Exchange (Answer Success)
  test_next _ = and_then test_controller restore

  module _ (s l : List ℕ) (hs : length s < 2 ^ 64) (hl : length l < 2 ^ 64) {written : Counted Success} {l₁ : List ℕ}
      (r : Writes (write_config config) l (ended (Ok written)) written.used written.pairs l₁) where
    at_written : Reached (test_with config) s l (test_next written.value) written.used written.pairs l₁
    unfolding test_with
    at_written = first_steps (write_config config) test_next s l written (writes_told (Ok written) r s)

    module _ (t : Result (Counted Success) (Counted Refusal)) {m : List ℕ} (r₂ : told t m ≡ play test_controller s (part (2 * written.pairs) l₁)) where
      on_all : told t m ≡ play test_controller (part written.used s) (part (2 * written.pairs) l₁)
      on_all = rw (all_left s written.used r.no_bytes) r₂

      at_tested : {tested : Counted Success} → Ok tested ≡ behind written t → Reached (test_with config) s l (restore tested.value) tested.used tested.pairs (restored (2 * written.pairs) l₁ m)
      at_tested {tested} q = then_steps hs hl written test_controller restore at_written t on_all tested q

pub returns-in_err-written : goal.returns-in_err-written
unfolding test_with
returns-in_err-written c =
    rw (exit _ _ c.from_residual.ensures.1) (first_stops (write_config c.args.config) (test_next c.args.config) _ _ _ (writes_told (Err _) c.in_err-written.ensures _))

pub returns-in_err-tested : goal.returns-in_err-tested
returns-in_err-tested c =
    let r = c.in_ok-written.ensures in
    rw (exit _ _ c.from_residual-in_err-tested.ensures.1)
    (then_stops (omega (arith, c.well_formed)) (omega (arith, c.well_formed)) c.in_ok-written.written test_controller (restore c.args.config)
    (at_written c.args.config _ _ (omega (arith, c.well_formed)) (omega (arith, c.well_formed)) r) _ (on_all c.args.config _ _ (omega (arith, c.well_formed)) (omega (arith, c.well_formed)) r _ c.test.ensures) _ c.in_err-tested.ensures)

pub returns : goal.returns
returns c =
    rw c.then-2.ensures
    (then_ends (omega (arith, c.well_formed)) (omega (arith, c.well_formed)) c.in_ok-tested.tested (write_config c.args.config)
    (at_tested c.args.config _ _ (omega (arith, c.well_formed)) (omega (arith, c.well_formed)) c.in_ok-written.ensures _ c.test.ensures c.in_ok-tested.ensures) _ (writes_told _ c.write_config-2.ensures _))

pub overflow_mul-written : goal.overflow_mul-written
overflow_mul-written c = search (counts, c.in_ok-written.ensures)

pub slice_bounds-test-count : goal.slice_bounds-test-count
slice_bounds-test-count c = search (counts, c.in_ok-written.ensures)

pub slice_bounds-test-start : goal.slice_bounds-test-start
slice_bounds-test-start c = search (counts, c.in_ok-written.ensures)

pub overflow_mul-tested : goal.overflow_mul-tested
overflow_mul-tested c =
    let at = at_tested c.args.config _ _ (omega (arith, c.well_formed)) (omega (arith, c.well_formed)) c.in_ok-written.ensures _ c.test.ensures c.in_ok-tested.ensures in
    omega (arith, at.pairs_le, at.same_length, c.well_formed)

pub slice_bounds-write_config-count : goal.slice_bounds-write_config-count
slice_bounds-write_config-count c =
    (at_tested c.args.config _ _ (omega (arith, c.well_formed)) (omega (arith, c.well_formed)) c.in_ok-written.ensures _ c.test.ensures c.in_ok-tested.ensures).pairs_le

pub slice_bounds-write_config-start : goal.slice_bounds-write_config-start
slice_bounds-write_config-start c =
    (at_tested c.args.config _ _ (omega (arith, c.well_formed)) (omega (arith, c.well_formed)) c.in_ok-written.ensures _ c.test.ensures c.in_ok-tested.ensures).pairs_le
