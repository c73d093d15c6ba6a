-- `ps2_setup::disable_devices` meets its contract: AD and A7, a byte that is dropped, and the configuration.
use Prim.Native.Nat.{ℕ, ◌*◌, ◌<◌, ◌^◌}
use native.Mathlib.Omega.{arith}
use mathlib.Core.List.{List}
use mathlib.Core.Path.{◌≡◌}
use lib.ListN.{length}
use Rattle.std.specs.Prelude.{Result, Ok, Err}
use Rattle.exchange.specs.Exchange.{Exchange, Reads, Writes}
use Rattle.exchange.specs.Answer.{Answer, and_then}
use Rattle.exchange.specs.Parts.{part, restored}
use Rattle.exchange.specs.Position.{Reached}
use Rattle.exchange.proofs.Counts.{counts}
use Rattle.ps2_bytes.specs.declared.command.HostToControllerCommand.TheVariants.{DisablePort1, DisablePort2}
use Rattle.ps2_layouts.specs.declared.configuration.ControllerConfigurationByte.{ControllerConfigurationByte}
use Rattle.ps2_answers.specs.declared.Counted.{Counted}
use Rattle.ps2_answers.specs.declared.Refusal.{Refusal}
use Rattle.ps2_answers.specs.Refusals.{Success}
use Rattle.ps2_answers.specs.Answers.{ended, used_of, pairs_of, behind}
use Rattle.ps2_answers.proofs.Then.{exit, all_left, writes_told, first_steps, first_stops, then_steps, then_stops, then_ends, then_reads_steps, then_reads_stops}
use Rattle.ps2_ports.specs.Ports.{write_command, flush_output_buffer, read_config}
use Rattle.ps2_setup.specs.SetUp.{disable_devices}
use Rattle.ps2_setup.proofs.Writing.{no_used}
use Rattle.ps2_setup.proofs.disable_devices.Goals as goal

-- what follows each exchange
abbrev configured : Success → Exchange (Answer ControllerConfigurationByte)
configured _ = read_config

abbrev flushed_next : Success → Exchange (Answer ControllerConfigurationByte)
flushed_next _ = and_then flush_output_buffer configured

abbrev second_next : Success → Exchange (Answer ControllerConfigurationByte)
second_next _ = and_then (write_command DisablePort2) flushed_next

-- where it has come to when each has been made
module _ (s l : List ℕ) (hs : length s < 2 ^ 64) (hl : length l < 2 ^ 64) {one : Counted Success} {l₁ : List ℕ}
    (r : Writes (write_command DisablePort1) l (ended (Ok one)) one.used one.pairs l₁) where
  at_one : Reached disable_devices s l (second_next one.value) one.used one.pairs l₁
  unfolding disable_devices
  at_one = first_steps (write_command DisablePort1) second_next s l one (writes_told (Ok one) r s)

  module _ (b : Result (Counted Success) (Counted Refusal)) {m : List ℕ} (r₂ : Writes (write_command DisablePort2) (part (2 * one.pairs) l₁) (ended b) (used_of b) (pairs_of b) m)
      {both : Counted Success} (q : Ok both ≡ behind one b) where
    at_both : Reached disable_devices s l (flushed_next both.value) both.used both.pairs (restored (2 * one.pairs) l₁ m)
    at_both = then_steps hs hl one (write_command DisablePort2) flushed_next at_one b (writes_told b r₂ (part one.used s)) both q

    none_used : both.used ≡ 0
    none_used = no_used one b both q r.no_bytes r₂.no_bytes

    module _ (f : Result (Counted Success) (Counted Refusal)) (r₃ : Reads flush_output_buffer s (ended f) (used_of f) (pairs_of f)) where
      dropped : Reads flush_output_buffer (part both.used s) (ended f) (used_of f) (pairs_of f)
      dropped = rw (all_left s both.used none_used) r₃

      at_flushed : {flushed : Counted Success} → Ok flushed ≡ behind both f → Reached disable_devices s l (configured flushed.value) flushed.used flushed.pairs (restored (2 * one.pairs) l₁ m)
      at_flushed {flushed} p = then_reads_steps hs hl both flush_output_buffer configured at_both f dropped flushed p

pub returns-in_err-one : goal.returns-in_err-one
unfolding disable_devices
returns-in_err-one c =
    rw (exit _ _ c.from_residual.ensures.1) (first_stops (write_command DisablePort1) second_next _ _ _ (writes_told (Err _) c.in_err-one.ensures _))

pub returns-in_err-both : goal.returns-in_err-both
returns-in_err-both c =
    rw (exit _ _ c.from_residual-in_err-both.ensures.1)
    (then_stops (omega (arith, c.well_formed)) (omega (arith, c.well_formed)) c.in_ok-one.one (write_command DisablePort2) flushed_next
    (at_one _ _ (omega (arith, c.well_formed)) (omega (arith, c.well_formed)) c.in_ok-one.ensures) _ (writes_told _ c.write_command-2.ensures _) _ c.in_err-both.ensures)

pub returns-in_err-flushed : goal.returns-in_err-flushed
returns-in_err-flushed c =
    let r = c.in_ok-one.ensures in
    let r₂ = c.write_command-2.ensures in
    let q = c.in_ok-both.ensures in
    rw (exit _ _ c.from_residual-in_err-flushed.ensures.1)
    (then_reads_stops (omega (arith, c.well_formed)) (omega (arith, c.well_formed)) c.in_ok-both.both flush_output_buffer configured
    (at_both _ _ (omega (arith, c.well_formed)) (omega (arith, c.well_formed)) r _ r₂ q) _
    (dropped _ _ (omega (arith, c.well_formed)) (omega (arith, c.well_formed)) r _ r₂ q _ c.flush_output_buffer.ensures) _ c.in_err-flushed.ensures)

pub returns : goal.returns
returns c =
    rw c.then-3.ensures
    (then_ends (omega (arith, c.well_formed)) (omega (arith, c.well_formed)) c.in_ok-flushed.flushed read_config
    (at_flushed _ _ (omega (arith, c.well_formed)) (omega (arith, c.well_formed)) c.in_ok-one.ensures _ c.write_command-2.ensures c.in_ok-both.ensures _ c.flush_output_buffer.ensures c.in_ok-flushed.ensures)
    _ c.read_config.ensures)

pub overflow_mul-one : goal.overflow_mul-one
overflow_mul-one c = search (counts, c.in_ok-one.ensures)

pub slice_bounds-write_command-count : goal.slice_bounds-write_command-count
slice_bounds-write_command-count c = search (counts, c.in_ok-one.ensures)

pub slice_bounds-write_command-start : goal.slice_bounds-write_command-start
slice_bounds-write_command-start c = search (counts, c.in_ok-one.ensures)

pub slice_bounds-read_config-count : goal.slice_bounds-read_config-count
slice_bounds-read_config-count c =
    (at_flushed _ _ (omega (arith, c.well_formed)) (omega (arith, c.well_formed)) c.in_ok-one.ensures _ c.write_command-2.ensures c.in_ok-both.ensures _ c.flush_output_buffer.ensures c.in_ok-flushed.ensures).used_le

pub slice_bounds-read_config-start : goal.slice_bounds-read_config-start
slice_bounds-read_config-start c =
    (at_flushed _ _ (omega (arith, c.well_formed)) (omega (arith, c.well_formed)) c.in_ok-one.ensures _ c.write_command-2.ensures c.in_ok-both.ensures _ c.flush_output_buffer.ensures c.in_ok-flushed.ensures).used_le

pub overflow_mul-flushed : goal.overflow_mul-flushed
overflow_mul-flushed c =
    let at = at_flushed _ _ (omega (arith, c.well_formed)) (omega (arith, c.well_formed)) c.in_ok-one.ensures _ c.write_command-2.ensures c.in_ok-both.ensures _ c.flush_output_buffer.ensures c.in_ok-flushed.ensures in
    omega (arith, at.pairs_le, at.same_length, c.well_formed)

pub slice_bounds-read_config-count-2 : goal.slice_bounds-read_config-count-2
slice_bounds-read_config-count-2 c =
    (at_flushed _ _ (omega (arith, c.well_formed)) (omega (arith, c.well_formed)) c.in_ok-one.ensures _ c.write_command-2.ensures c.in_ok-both.ensures _ c.flush_output_buffer.ensures c.in_ok-flushed.ensures).pairs_le

pub slice_bounds-read_config-start-2 : goal.slice_bounds-read_config-start-2
slice_bounds-read_config-start-2 c =
    (at_flushed _ _ (omega (arith, c.well_formed)) (omega (arith, c.well_formed)) c.in_ok-one.ensures _ c.write_command-2.ensures c.in_ok-both.ensures _ c.flush_output_buffer.ensures c.in_ok-flushed.ensures).pairs_le
