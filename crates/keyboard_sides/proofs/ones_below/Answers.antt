-- `keyboard_sides::ones_below` meets its contract: the mask leaves the lowest bits, and a whole word is as many as it has.
use mathlib.Core.Path.{ap, sym}
use native.Mathlib.Omega.{arith}
use lib.Bits.{and_mask}
use lib.Count.{ones}
use Rattle.keyboard_sides.proofs.Row.{whole_word}
use Rattle.bits.proofs.Masks.{one_shl}
use Rattle.keyboard_sides.proofs.ones_below.Goals as goal

pub returns-then-n-lt-WORD : goal.returns-then-n-lt-WORD
returns-then-n-lt-WORD c =
    rw (one_shl 64 c.args.n c.if-n-lt-WORD.true) (ap ones (and_mask c.args.word c.args.n))

pub returns-else-n-lt-WORD : goal.returns-else-n-lt-WORD
returns-else-n-lt-WORD c = ap ones (sym (whole_word c.args.n c.args.word c.if-n-lt-WORD.false (omega arith)))
