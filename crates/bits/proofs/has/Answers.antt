-- `has` meets its contract: the mask of a bit tests it, and a byte has no bit above 7.
use mathlib.Core.Path.{sym, ◌∙◌}
use native.Mathlib.Omega.{arith}
use borrow.Author.Tests.{le-ltb}
use Rattle.bits.proofs.Bits.{bit_above}
use Rattle.bits.proofs.Masks.{test_mask, one_shl}
use Rattle.bits.proofs.has.Goals as goal

pub returns-then-k-lt8 : goal.returns-then-k-lt8
returns-then-k-lt8 c =
    let a = c.args in
    rw (one_shl 8 a.k (omega arith)) (test_mask a.k a.x)

pub returns-else-k-lt8 : goal.returns-else-k-lt8
returns-else-k-lt8 c =
    let a = c.args in
    le-ltb a.k 8 c.if-k-lt8.false ∙ sym (bit_above 8 a.k a.x c.if-k-lt8.false c.ranges.x.fits)
