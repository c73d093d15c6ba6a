-- `typing::put_keys` meets its contract: up to each place the scancodes are put.
use native.Mathlib.Omega.{arith}
use lib.ListN.{length-set}
use Rattle.typing.proofs.Putting.{putting_begins, room_shift, room_plain, puts_shift, puts_plain, putting_ends}
use Rattle.typing.proofs.put_keys.Goals as goal
use Rattle.typing.proofs.put_keys.Goals.{else-key-ge-NEEDS_SHIFT, then-key-ge-NEEDS_SHIFT}

pub loop-character-init : goal.loop-character-init
loop-character-init c = putting_begins _ _ c.requires

pub bounds-out-at : goal.bounds-out-at
bounds-out-at c = omega (arith, room_shift c.loop-character.invariant c.loop-character-test.true c.key_in-key.ensures c.if-key-ge-NEEDS_SHIFT.true)

pub bounds-out-at-then-key-ge-NEEDS_SHIFT : goal.bounds-out-at-then-key-ge-NEEDS_SHIFT
bounds-out-at-then-key-ge-NEEDS_SHIFT c = rw length-set (omega (arith, room_shift c.loop-character.invariant c.loop-character-test.true c.key_in-key.ensures c.if-key-ge-NEEDS_SHIFT.true))

pub bounds-out-at-then-key-ge-NEEDS_SHIFT-2 : goal.bounds-out-at-then-key-ge-NEEDS_SHIFT-2
bounds-out-at-then-key-ge-NEEDS_SHIFT-2 c = rw (length-set, length-set) (omega (arith, room_shift c.loop-character.invariant c.loop-character-test.true c.key_in-key.ensures c.if-key-ge-NEEDS_SHIFT.true))

pub bounds-out-at-then-key-ge-NEEDS_SHIFT-3 : goal.bounds-out-at-then-key-ge-NEEDS_SHIFT-3
bounds-out-at-then-key-ge-NEEDS_SHIFT-3 c = rw (length-set, length-set, length-set) (omega (arith, room_shift c.loop-character.invariant c.loop-character-test.true c.key_in-key.ensures c.if-key-ge-NEEDS_SHIFT.true))

pub bounds-out-at-else-key-ge-NEEDS_SHIFT : goal.bounds-out-at-else-key-ge-NEEDS_SHIFT
bounds-out-at-else-key-ge-NEEDS_SHIFT c = omega (arith, room_plain c.loop-character.invariant c.loop-character-test.true c.key_in-key.ensures c.if-key-ge-NEEDS_SHIFT.false)

pub bounds-out-at-else-key-ge-NEEDS_SHIFT-2 : goal.bounds-out-at-else-key-ge-NEEDS_SHIFT-2
bounds-out-at-else-key-ge-NEEDS_SHIFT-2 c = rw length-set (omega (arith, room_plain c.loop-character.invariant c.loop-character-test.true c.key_in-key.ensures c.if-key-ge-NEEDS_SHIFT.false))

pub loop-character-preserved : goal.loop-character-preserved
loop-character-preserved c =
    let inv = c.loop-character.invariant in
    let test = c.loop-character-test.true in
    let key = c.key_in-key.ensures in
    elim c.if-key-ge-NEEDS_SHIFT.branch [
      | then-key-ge-NEEDS_SHIFT w ↦ rw (w.out-is, w.at-is) (puts_shift inv test key w.if-key-ge-NEEDS_SHIFT.true)
      | else-key-ge-NEEDS_SHIFT w ↦ rw (w.out-is, w.at-is) (puts_plain inv test key w.if-key-ge-NEEDS_SHIFT.false)
    ]

pub returns : goal.returns
returns c = putting_ends c.loop-character.invariant c.loop-character-test.false
