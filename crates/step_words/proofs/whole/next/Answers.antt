-- `next` meets its contract.
use native.Mathlib.Omega.{arith}
use Rattle.std.proofs.Common.{rules}
use Rattle.step_words.specs.Whole.{no_byte, next_too_few, stepped}
use Rattle.step_words.proofs.whole.next.Goals as goal

pub returns-then-byte-gt255 : goal.returns-then-byte-gt255
returns-then-byte-gt255 c = rw c.refusing_request.ensures (no_byte (omega (arith, c.if-byte-gt255.true)))

pub returns-in_default : goal.returns-in_default
returns-in_default c = rw c.refusing_request-in_default.ensures (next_too_few (omega (arith, c.if-byte-gt255.false)) (search rules))

pub returns : goal.returns
returns c =
    rw c.advance_words.ensures
    (stepped {a = c.next_all-advance.result} {l = c.next_all-advance.new.words} (omega (arith, c.if-byte-gt255.false)) c.in-Some.ensures.cases.long (search rules) (rw c.in-Some.ensures.cases.same at c.next_all-advance.ensures))
