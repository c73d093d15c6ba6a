-- `keyboard_sides::Sides::without_oldest` meets its contract: the number that the words make is halved.
use native.Mathlib.Omega.{arith}
use Rattle.keyboard_sides.proofs.Row.{halved}
use Rattle.keyboard_sides.proofs.Sides.without_oldest.Goals as goal

pub returns : goal.returns
returns c = halved c.args.self (omega (arith, c.well_formed))
