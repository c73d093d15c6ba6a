-- `preferences::coding::put_all` meets its contract: the numbers are put one after another.
use native.Mathlib.Omega.{arith}
use Rattle.preferences.proofs.Putting.{putting_begins, number_put_by, next_room, next_put}
use Rattle.preferences.proofs.coding.put_all.Goals as goal

pub loop-number-init : goal.loop-number-init
loop-number-init c = putting_begins c.args.numbers.now c.args.output.now c.requires

pub overflow_add-at : goal.overflow_add-at
overflow_add-at c =
    let room = next_room c.args.numbers.now c.loop-number.number-index c.loop-number.invariant (omega arith) in
    let put = number_put_by c.write_number.result room c.write_number.ensures c.unwrap_or-at.ensures in
    omega (arith, put.place)

pub loop-number-preserved : goal.loop-number-preserved
loop-number-preserved c =
    let room = next_room c.args.numbers.now c.loop-number.number-index c.loop-number.invariant (omega arith) in
    next_put c.args.numbers.now c.loop-number.number-index c.loop-number.invariant (omega arith) (number_put_by c.write_number.result room c.write_number.ensures c.unwrap_or-at.ensures)
