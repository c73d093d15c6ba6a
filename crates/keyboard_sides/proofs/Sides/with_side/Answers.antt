-- `keyboard_sides::Sides::with_side` meets its contract: the bit is put into the word that has it.
use native.Mathlib.Omega.{arith}
use mathlib.Core.Path.{sym}
use Rattle.keyboard_sides.proofs.Row.{put_low, put_high, with_side_none}
use Rattle.keyboard_sides.proofs.Sides.with_side.Goals as goal

pub returns-then-count-lt-WORD : goal.returns-then-count-lt-WORD
returns-then-count-lt-WORD c =
    let a = c.args in
    put_low a.self a.count a.side c.put.result (omega arith) (omega (arith, c.well_formed)) c.put.ensures

pub returns-then-count : goal.returns-then-count
returns-then-count c =
    let a = c.args in
    put_high a.self a.count a.side c.put-then-count.result (omega arith) (omega arith) (omega (arith, c.well_formed)) c.put-then-count.ensures

pub returns-else-count : goal.returns-else-count
returns-else-count c =
    let a = c.args in
    sym (with_side_none a.side a.count a.self (omega arith))
