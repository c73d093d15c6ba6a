-- `polling_send` meets its contract: the invariant is how far the definition's repetition has come, with nothing written yet; a status read is one turn of it.
use native.Mathlib.Omega.{arith}
use Prim.Native.Nat.{ℕ, ◌*◌, ◌-◌, ◌<◌}
use mathlib.Core.Bool.{Bool, true, false, cond, not, not-not}
use mathlib.Core.List.{List}
use mathlib.Core.Path.{◌≡◌, refl, sym, ap, ◌∙◌}
use Rattle.bits.specs.Bits.{bit}
use Rattle.exchange.specs.Exchange.{p60, Exchange, done, write, bind}
use Rattle.exchange.specs.Answer.{Answer, gives, refuses, and_then}
use Rattle.exchange.specs.Parts.{part}
use Rattle.exchange.specs.Position.{Reached}
use Rattle.exchange.specs.Repeat.{found, again, turned, repeat}
use Rattle.exchange.proofs.Position.{reached_start, reached_same}
use Rattle.exchange.proofs.Repeat.{reached_turn, reached_over}
use Rattle.ps2_layouts.specs.declared.status.ControllerToHostStatus.{ControllerToHostStatus}
use Rattle.ps2_bytes.specs.declared.writable.HostToDevice.{HostToDevice}
use Rattle.ps2_bytes.specs.declared.writable.WritableData.{WritableData}
use Rattle.ps2_layouts.specs.Status.{input_buffer_full}
use Rattle.ps2_bytes.specs.Writable.{to_device}
use Rattle.ps2_answers.specs.Refusals.{Success, success}
use Rattle.ps2_answers.proofs.Then.{exit, all_left, all_restored, writes_told, then_ends, then_reads_steps, then_reads_stops, then_reads_pairs}
use Rattle.ps2_ports.specs.Ports.{read_status, write_port, write_data}
use Rattle.ps2_polling.specs.Polling.{send_try, polling_send}
use Rattle.ps2_polling.proofs.polling_send.Goals as goal

-- what follows the status, by whether the input buffer is full
module _ (value : HostToDevice) (n : ℕ) where
  abbrev after : Bool → Exchange (Answer Success)
  after full =
      bind (cond full (done again) (write p60 (to_device value) (done (found (gives success)))))
      (λ r. turned r (repeat (n - 1) (refuses 4) (send_try (to_device value))))

  abbrev on_status : ControllerToHostStatus → Exchange (Answer Success)
  on_status status = after (bit input_buffer_full status.bits)

  module _ {s l l' : List ℕ} {u w : ℕ} (h : 0 < n) where
    -- the status is asked
    asked : Reached (polling_send value) s l (repeat n (refuses 4) (send_try (to_device value))) u w l' → Reached (polling_send value) s l (and_then read_status on_status) u w l'
    unfolding send_try read_status bind and_then
    asked at = reached_turn n (refuses 4) (send_try (to_device value)) at (n - 1) (omega arith)

    -- it came, and says whether the input buffer is empty
    answered : (status : ControllerToHostStatus) {x : Bool} → Reached (polling_send value) s l (on_status status) u w l'
        → x ≡ bit input_buffer_full status.bits → (empty : Bool) → not x ≡ empty → Reached (polling_send value) s l (after (not empty)) u w l'
    answered status {x} at p empty t = reached_same at (ap after (sym p ∙ sym (not-not x) ∙ ap not t))

pub loop-tries-init : goal.loop-tries-init
unfolding polling_send
loop-tries-init c = rw c.new-at.ensures (record { no_pairs = refl; to = reached_start _ _ _ })

pub returns-in_err-status : goal.returns-in_err-status
returns-in_err-status c =
    let at = c.loop-tries.invariant in
    rw (exit _ _ c.from_residual.ensures.1)
    (then_reads_stops (omega (arith, c.well_formed)) (omega (arith, c.well_formed)) c.loop-tries.at read_status (on_status c.args.value c.loop-tries.tries)
    (asked c.args.value c.loop-tries.tries (omega arith) at.to) _ c.status_register.ensures _ c.in_err-status.ensures)

pub returns-then-tries-eq0 : goal.returns-then-tries-eq0
returns-then-tries-eq0 c = rw c.with.ensures (reached_over _ _ _ c.loop-tries.invariant.to (omega arith))

pub loop-tries-preserved : goal.loop-tries-preserved
unfolding bind
loop-tries-preserved c =
    let at = c.loop-tries.invariant in
    let r = c.status_register.ensures in
    let q = c.in_ok-status.ensures in
    let on = on_status c.args.value c.loop-tries.tries in
    let a = asked c.args.value c.loop-tries.tries (omega arith) at.to in
    rw c.with-at.ensures
    (record {
      no_pairs = then_reads_pairs (omega (arith, c.well_formed)) (omega (arith, c.well_formed)) c.loop-tries.at read_status on a _ r _ q ∙ at.no_pairs;
      to = answered c.args.value c.loop-tries.tries (omega arith) _ (then_reads_steps (omega (arith, c.well_formed)) (omega (arith, c.well_formed)) c.loop-tries.at read_status on a _ r _ q)
          c.input_buffer_full.ensures false (ap not c.if-not-input_buffer_full.false);
    })

pub returns-then-not-input_buffer_full : goal.returns-then-not-input_buffer_full
unfolding write_port bind
returns-then-not-input_buffer_full c =
    let at = c.loop-tries.invariant in
    let r = c.status_register.ensures in
    let x = c.in_ok-status.status in
    let q = c.in_ok-status.ensures in
    let on = on_status c.args.value c.loop-tries.tries in
    let a = asked c.args.value c.loop-tries.tries (omega arith) at.to in
    let p : x.pairs ≡ 0 = then_reads_pairs (omega (arith, c.well_formed)) (omega (arith, c.well_formed)) c.loop-tries.at read_status on a _ r _ q ∙ at.no_pairs in
    let z : 2 * x.pairs ≡ 0 = omega arith in
    rw c.then-then-not-input_buffer_full.ensures
    (rw (all_restored c.loop-tries.log c.write_data.new.log (2 * x.pairs) z) at
    (then_ends (omega (arith, c.well_formed)) (omega (arith, c.well_formed)) x (write_data (WritableData.HostToDevice c.args.value))
    (answered c.args.value c.loop-tries.tries (omega arith) _ (then_reads_steps (omega (arith, c.well_formed)) (omega (arith, c.well_formed)) c.loop-tries.at read_status on a _ r _ q)
    c.input_buffer_full.ensures true (ap not c.if-not-input_buffer_full.true))
    c.write_data.result {m = c.write_data.new.log} (rw (all_left c.loop-tries.log (2 * x.pairs) z) (writes_told c.write_data.result c.write_data.ensures (part x.used c.args.script.now)))))
