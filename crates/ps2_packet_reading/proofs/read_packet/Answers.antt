-- `read_packet` meets its contract: what follows the three bytes is read where they ended.
use native.Mathlib.Omega.{arith}
use Rattle.exchange.proofs.Position.{reads_used_le}
use Rattle.ps2_answers.proofs.Then.{exit}
use Rattle.ps2_answers.proofs.Reading.{read_first, read_first_stops, read_then_ends}
use Rattle.ps2_packet_reading.specs.Reading.{after_three}
use Rattle.ps2_packet_reading.proofs.PacketReads.{three, packet_three}
use Rattle.ps2_packet_reading.proofs.read_packet.Goals as goal

pub slice_bounds-read_after_three-count : goal.slice_bounds-read_after_three-count
slice_bounds-read_after_three-count c = reads_used_le c.in_ok-first.ensures

pub slice_bounds-read_after_three-start : goal.slice_bounds-read_after_three-start
slice_bounds-read_after_three-start c = reads_used_le c.in_ok-first.ensures

pub returns-in_err-first : goal.returns-in_err-first
returns-in_err-first c =
    rw (exit _ _ c.from_residual.ensures.1, ← packet_three c.args.id) (read_first_stops three (after_three c.args.id) _ _ c.in_err-first.ensures)

pub returns : goal.returns
returns c =
    rw (c.then.ensures, ← packet_three c.args.id)
    (read_then_ends (omega (arith, c.well_formed)) c.in_ok-first.first (read_first three (after_three c.args.id) _ _ c.in_ok-first.ensures) _ c.read_after_three.ensures)
