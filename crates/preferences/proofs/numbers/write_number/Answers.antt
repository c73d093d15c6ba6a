-- `preferences::numbers::write_number` meets its contract: the room is asked for, then the number is put.
use native.Mathlib.Omega.{arith}
use Rattle.preferences.proofs.NumberPutting.{no_room, with_room, part_put}
use Rattle.preferences.proofs.Shortest.{coding_some}
use Rattle.preferences.proofs.numbers.write_number.Goals as goal

pub returns-then-saturating_sub-length : goal.returns-then-saturating_sub-length
returns-then-saturating_sub-length c = no_room c.args.number c.args.at c.args.output.now (omega (arith, coding_some c.args.number))

pub slice_bounds-put_number-end : goal.slice_bounds-put_number-end
slice_bounds-put_number-end c = omega (arith, coding_some c.args.number)

pub returns : goal.returns
returns c =
    with_room c.args.number c.args.at c.args.output.now c.number_length-length.ensures
    (part_put c.args.at _ c.args.output.now c.put_number.ensures (omega arith))
    (omega (arith, coding_some c.args.number))
