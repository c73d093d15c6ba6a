-- `poll_data` meets its contract: the status, and then data where it says so.
use native.Mathlib.Omega.{arith}
use Prim.Native.Nat.{ℕ}
use mathlib.Core.Bool.{Bool, true, false, cond}
use mathlib.Core.List.{List}
use mathlib.Core.Path.{◌≡◌, refl, ap, sym, ◌∙◌}
use Rattle.bits.specs.Bits.{bit}
use Rattle.exchange.specs.Exchange.{Exchange, done, bind, Reads}
use Rattle.exchange.specs.Answer.{Answer, gives}
use Rattle.exchange.specs.Repeat.{Turn, found, again}
use Rattle.exchange.proofs.Position.{reads_used_le}
use Rattle.ps2_layouts.specs.declared.status.ControllerToHostStatus.{ControllerToHostStatus}
use Rattle.ps2_layouts.specs.Status.{output_buffer_full}
use Rattle.ps2_answers.specs.declared.Counted.{Counted}
use Rattle.ps2_answers.specs.Answers.{ended}
use Rattle.ps2_answers.proofs.Refusals.{on_answer, reads_refused_turn}
use Rattle.ps2_answers.proofs.Then.{exit}
use Rattle.ps2_answers.proofs.Reading.{Read, reads_pairs, read_bind, read_same, read_here, read_last_brought, read_last_stopped}
use Rattle.std.specs.Prelude.{Ok}
use Rattle.ps2_ports.specs.Ports.{read_status}
use Rattle.ps2_polling.specs.Polling.{data_turn, poll, poll_data}
use Rattle.ps2_polling.proofs.Polls.{read_turn}
use Rattle.ps2_polling.proofs.poll_data.Goals as goal

-- what follows the status, by whether it says that there is data
abbrev on_full : Bool → Exchange (Turn (Answer ℕ))
on_full full = cond full (data_turn (λ b. found (gives b))) (done again)

abbrev on_status : ControllerToHostStatus → Exchange (Turn (Answer ℕ))
on_status status = on_full (bit output_buffer_full status.bits)

seen : {s : List ℕ} (status : Counted ControllerToHostStatus) {x : Bool} (full : Bool) → Reads read_status s (ended (Ok status)) status.used status.pairs
    → x ≡ bit output_buffer_full status.value.bits → x ≡ full → Read poll_data s (on_full full) status.used status.pairs
unfolding poll read_status bind
seen status full r p q = read_same (read_bind read_status (on_answer on_status) _ status r) (ap on_full (sym p ∙ q))

pub slice_bounds-read_data-count : goal.slice_bounds-read_data-count
slice_bounds-read_data-count c = reads_used_le c.in_ok-status.ensures

pub slice_bounds-read_data-start : goal.slice_bounds-read_data-start
slice_bounds-read_data-start c = reads_used_le c.in_ok-status.ensures

pub returns-in_err-status : goal.returns-in_err-status
unfolding poll read_status bind
returns-in_err-status c =
    let r = c.in_err-status.ensures in
    rw (exit _ _ c.from_residual.ensures.1) (reads_pairs (reads_refused_turn read_status on_status _ r _ refl) r.no_pairs)

pub returns-in_err-data : goal.returns-in_err-data
returns-in_err-data c =
    let r = c.read_data.ensures in
    rw (exit _ _ c.from_residual-in_err-data.ensures.1)
    (read_last_stopped (omega (arith, c.well_formed)) c.in_ok-status.status _
    (seen _ true c.in_ok-status.ensures c.output_buffer_full.ensures c.if-output_buffer_full.true)
    (λ b. found (gives b)) _ (read_turn (λ b. found (gives b)) _ _ r) r.no_pairs _ c.in_err-data.ensures)

pub returns-in_ok-data : goal.returns-in_ok-data
returns-in_ok-data c =
    let r = c.read_data.ensures in
    rw c.with.ensures
    (read_last_brought (omega (arith, c.well_formed)) c.in_ok-status.status _
    (seen c.in_ok-status.status true c.in_ok-status.ensures c.output_buffer_full.ensures c.if-output_buffer_full.true)
    (λ b. found (gives b)) _ (read_turn (λ b. found (gives b)) _ _ r) r.no_pairs _ c.in_ok-data.ensures)

pub returns-else-output_buffer_full : goal.returns-else-output_buffer_full
returns-else-output_buffer_full c =
    rw c.with-else-output_buffer_full.ensures
    (read_here (seen _ false c.in_ok-status.ensures c.output_buffer_full.ensures c.if-output_buffer_full.false))
