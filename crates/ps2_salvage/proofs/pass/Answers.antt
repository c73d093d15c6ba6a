-- `ps2_salvage::pass` meets its contract: at each turn the pass is under way (`Going`), and what ends it ends the definition's.
use native.Mathlib.Omega.{arith}
use mathlib.Core.Path.{sym, ◌∙◌}
use Prim.Native.Nat.{◌+◌, ◌≤◌}
use lib.ListN.{length}
use Rattle.ps2_salvage.proofs.Pieces.{packet_bound}
use Rattle.ps2_salvage.proofs.Going.{packets_length, going_begins, going_drops, going_copies, ends_at_end, ends_before_tail, ends_for_room, ends_for_place}
use Rattle.ps2_salvage.proofs.pass.Goals as goal

pub loop-used-init : goal.loop-used-init
loop-used-init g c = going_begins _ _ _ _

pub loop-used-preserved-then-has : goal.loop-used-preserved-then-has
loop-used-preserved-then-has g c =
    let n = c.loop-used.invariant in
    let room : c.loop-used.packet_bytes + g.row.LENGTH ≤ length c.loop-used.packets =
    omega (arith, c.saturating_sub-rooms.ensures, c.if-rooms-packet_bytes.false, packets_length n, packet_bound g.id, c.requires)
    in
    let whole : c.loop-used.used + g.row.LENGTH ≤ length c.args.bytes.now =
    omega (arith, c.saturating_sub-starts.ensures, c.loop-used-test.true, packet_bound g.id, c.requires)
    in
    rw c.copy_from_slice.ensures.after
    (going_copies n c.requires.1 whole (rw c.unwrap.ensures at c.as_array.ensures.cases).same (sym c.has.ensures ∙ c.if-has.true) room)

pub loop-used-preserved : goal.loop-used-preserved
loop-used-preserved g c =
    going_drops c.loop-used.invariant (omega (arith, c.saturating_sub-starts.ensures, c.loop-used-test.true)) (sym c.has.ensures ∙ c.if-has.false) c.if-positions-dropped.false

-- a tail too short for a packet
pub loop-used-2-preserved : goal.loop-used-2-preserved
loop-used-2-preserved g c = (
  going_drops c.loop-used-2.invariant.0 c.loop-used-2-test.true (sym c.has-in-loop-used-2.ensures ∙ c.if-not-has.true) c.if-positions-dropped-2.false,
  omega (arith, c.loop-used-2.invariant.1),
)

-- the ends: for want of room, for want of a place, before a short tail, at the recording's end
pub returns-then-rooms-packet_bytes : goal.returns-then-rooms-packet_bytes
returns-then-rooms-packet_bytes g c =
    let n = c.loop-used.invariant in
    let bound = packet_bound g.id in
    ends_for_room n (omega (arith, c.saturating_sub-starts.ensures, c.loop-used-test.true)) (sym c.has.ensures ∙ c.if-has.true)
    (omega (arith, c.saturating_sub-starts.ensures, c.loop-used-test.true, bound, c.requires))
    (omega (arith, c.saturating_sub-rooms.ensures, c.if-rooms-packet_bytes.true, packets_length n, bound, c.requires))

pub returns-then-positions-dropped : goal.returns-then-positions-dropped
returns-then-positions-dropped g c =
    ends_for_place c.loop-used.invariant (omega (arith, c.saturating_sub-starts.ensures, c.loop-used-test.true)) (sym c.has.ensures ∙ c.if-has.false) c.if-positions-dropped.true

pub returns-then-positions-dropped-2 : goal.returns-then-positions-dropped-2
returns-then-positions-dropped-2 g c =
    ends_for_place c.loop-used-2.invariant.0 c.loop-used-2-test.true (sym c.has-in-loop-used-2.ensures ∙ c.if-not-has.true) c.if-positions-dropped-2.true

pub returns-else-not-has : goal.returns-else-not-has
returns-else-not-has g c =
    ends_before_tail c.loop-used-2.invariant.0 c.loop-used-2-test.true (sym c.has-in-loop-used-2.ensures ∙ c.if-not-has.false)
    (omega (arith, c.loop-used-2.invariant.1, c.saturating_sub-starts.ensures, packet_bound g.id, c.requires))

pub returns-after-loop-used-2 : goal.returns-after-loop-used-2
returns-after-loop-used-2 g c = ends_at_end c.loop-used-2.invariant.0 c.loop-used-2-test.false
