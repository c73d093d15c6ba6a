-- `keyboard_sides::Sides::oldest` meets its contract: the lowest bit.
use mathlib.Core.Path.{◌≡◌}
use Prim.Native.Nat.{◌%◌}
use native.Mathlib.Omega.{arith}
use lib.Bits.{and_mask}
use Rattle.bits.specs.Bits.{odd}
use Rattle.keyboard_sides.proofs.Sides.oldest.Goals as goal

pub returns-then-self-eq0 : goal.returns-then-self-eq0
unfolding odd
returns-then-self-eq0 c =
    let s = c.args.self in
    let e : s.low % 2 ≡ 0 = omega (arith, and_mask s.low 1) in
    rw e

pub returns-else-self-eq0 : goal.returns-else-self-eq0
unfolding odd
returns-else-self-eq0 c =
    let s = c.args.self in
    let e : s.low % 2 ≡ 1 = omega (arith, and_mask s.low 1) in
    rw e
