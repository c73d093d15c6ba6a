-- `report::sessions::pass` meets its contract: up to each packet the movements are summed.
use mathlib.Core.Path.{refl}
use native.Mathlib.Omega.{arith}
use mir.Syntax.{w64}
use mir.Val.{to_z, of_z}
use Rattle.ps2_packet.specs.Packet.{y_movement}
use Rattle.report.proofs.Sums.{movement_fits}
use Rattle.report.proofs.Summing.{ahead, summing_next, summing_all, y_far, y_small, read_small}
use Rattle.report.proofs.sessions.pass.Goals as goal

pub overflow_add-y : goal.overflow_add-y
overflow_add-y g c =
    let r = c.requires.length in
    movement_fits (to_z w64 c.loop-i.y-bits) (to_z w64 (of_z w64 c.wide_y_movement-y.result)) (y_far (c.loop-i.invariant r.0 r.1) c.requires.room (omega (arith, ahead r.0 r.1 c.loop-i-test.true, r.1)))
    (read_small y_movement y_small c.wide_y_movement-y.ensures c.packet_at-p.ensures (c.type_inv.bytes _).fits (c.type_inv.bytes _).fits)

pub loop-i-preserved : goal.loop-i-preserved
loop-i-preserved g c id e =
    summing_next (λ k. (c.type_inv.bytes k).fits) c.requires.room e c.loop-i-test.true c.packet_at-p.ensures c.wide_x_movement-x.ensures c.wide_y_movement-y.ensures (c.loop-i.invariant id e)

pub returns : goal.returns
returns g c id e = summing_all e refl c.loop-i.auto.i-end c.loop-i-test.false (c.loop-i.invariant id e)
