-- `poll_mouse_id` meets its contract: data is read where the status says that the mouse has some.
use native.Mathlib.Omega.{arith}
use Prim.Native.Nat.{ℕ}
use mathlib.Core.Bool.{Bool, true, false}
use mathlib.Core.List.{List}
use mathlib.Core.Path.{◌≡◌, refl, ap}
use Rattle.std.specs.Prelude.{Ok}
use Rattle.exchange.specs.Exchange.{bind, Reads}
use Rattle.exchange.specs.Answer.{and_then}
use Rattle.exchange.proofs.Position.{reads_used_le}
use Rattle.ps2_bytes.specs.Responses.{mouse_ids}
use Rattle.ps2_answers.specs.declared.Counted.{Counted}
use Rattle.ps2_answers.specs.Answers.{ended}
use Rattle.ps2_answers.proofs.Refusals.{on_answer, reads_refused_turn}
use Rattle.ps2_answers.proofs.Then.{exit}
use Rattle.ps2_answers.proofs.Reading.{Read, reads_pairs, read_bind, read_same, read_here, read_last_brought, read_last_stopped}
use Rattle.ps2_ports.specs.Ports.{read_status}
use Rattle.ps2_polling.proofs.Polls.{read_turn}
use Rattle.ps2_command.specs.Search.{poll_when, listed_turn}
use Rattle.ps2_mouse.specs.Mouse.{mouse_byte_waits, mouse_output_buffer_full}
use Rattle.ps2_mouse.proofs.Polls.{on_full}
use Rattle.ps2_mouse.proofs.poll_mouse_id.Goals as goal

-- what follows the status, by what it says
seen : {s : List ℕ} (full : Counted Bool) (x : Bool) → Reads mouse_output_buffer_full s (ended (Ok full)) full.used full.pairs
    → full.value ≡ x → Read (poll_when mouse_byte_waits (listed_turn mouse_ids)) s (on_full x) full.used full.pairs
unfolding poll_when mouse_output_buffer_full and_then read_status bind
seen full x r q = read_same (read_bind mouse_output_buffer_full (on_answer on_full) _ full r) (ap on_full q)

pub slice_bounds-read_data-count : goal.slice_bounds-read_data-count
slice_bounds-read_data-count c = reads_used_le c.in_ok-full.ensures

pub slice_bounds-read_data-start : goal.slice_bounds-read_data-start
slice_bounds-read_data-start c = reads_used_le c.in_ok-full.ensures

pub returns-in_err-full : goal.returns-in_err-full
unfolding poll_when mouse_output_buffer_full and_then read_status bind
returns-in_err-full c =
    let r = c.in_err-full.ensures in
    rw (exit _ _ c.from_residual.ensures.1) (reads_pairs (reads_refused_turn mouse_output_buffer_full on_full _ r _ refl) r.no_pairs)

pub returns-in_err-data : goal.returns-in_err-data
returns-in_err-data c =
    let r = c.read_data.ensures in
    rw (exit _ _ c.from_residual-in_err-data.ensures.1)
    (read_last_stopped (omega (arith, c.well_formed)) c.in_ok-full.full _ (seen _ true c.in_ok-full.ensures c.if-full.true)
    (listed_turn mouse_ids) _ (read_turn (listed_turn mouse_ids) _ _ r) r.no_pairs _ c.in_err-data.ensures)

pub returns-in_ok-data : goal.returns-in_ok-data
returns-in_ok-data c =
    let r = c.read_data.ensures in
    rw (c.with.ensures, c.listed_id.ensures)
    (read_last_brought (omega (arith, c.well_formed)) c.in_ok-full.full _ (seen c.in_ok-full.full true c.in_ok-full.ensures c.if-full.true)
    (listed_turn mouse_ids) _ (read_turn (listed_turn mouse_ids) _ _ r) r.no_pairs _ c.in_ok-data.ensures)

pub returns-else-full : goal.returns-else-full
returns-else-full c =
    rw c.with-else-full.ensures (read_here (seen c.in_ok-full.full false c.in_ok-full.ensures c.if-full.false))
