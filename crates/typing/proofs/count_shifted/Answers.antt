-- `typing::count_shifted` meets its contract: up to each place the characters that need Shift are counted.
use Rattle.typing.proofs.Counting.{counting_stops, counting_shift, counting_plain, counting_ends}
use Rattle.typing.proofs.count_shifted.Goals as goal
use Rattle.typing.proofs.count_shifted.Goals.{else-key-ge-NEEDS_SHIFT, then-key-ge-NEEDS_SHIFT}

pub returns-then-key-eq-NO_KEY : goal.returns-then-key-eq-NO_KEY
returns-then-key-eq-NO_KEY c =
    counting_stops c.loop-character.invariant c.loop-character-test.true c.key_in-key.ensures c.if-key-eq-NO_KEY.true

pub loop-character-preserved : goal.loop-character-preserved
loop-character-preserved c =
    let inv = c.loop-character.invariant in
    let test = c.loop-character-test.true in
    let key = c.key_in-key.ensures in
    elim c.if-key-ge-NEEDS_SHIFT.branch [
      | then-key-ge-NEEDS_SHIFT w ↦ rw w.shifted-is (counting_shift inv test key w.if-key-ge-NEEDS_SHIFT.true)
      | else-key-ge-NEEDS_SHIFT w ↦ rw w.shifted-is (counting_plain inv test key c.if-key-eq-NO_KEY.false w.if-key-ge-NEEDS_SHIFT.false)
    ]

pub returns : goal.returns
returns c = counting_ends c.loop-character.invariant c.loop-character-test.false
