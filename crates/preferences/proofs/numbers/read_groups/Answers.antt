-- `preferences::numbers::read_groups` meets its contract: at each place the groups behind it decide (`Going`).
use Prim.Native.Nat.{◌+◌}
use mathlib.Core.Path.{sym}
use native.Mathlib.Omega.{arith}
use Rattle.preferences.proofs.Going.{going_begins, cut_short, too_many, scale_most, product_most, ends_zero, ends_large, ends_well, goes}
use Rattle.preferences.proofs.numbers.read_groups.Goals as goal
use Rattle.preferences.proofs.numbers.read_groups.Goals.{then-byte-eq0-via-then-byte-eq0, then-byte-eq0-via-else-byte-eq0+then-whole-ge-NUMBERS_END}

pub loop-place-init : goal.loop-place-init
loop-place-init c =
    rw c.requires.2 (going_begins c.args.input.now c.args.at c.requires.0 c.requires.1 (omega (arith, c.type_inv.input c.args.at)))

pub returns-in_default : goal.returns-in_default
returns-in_default c = sym (cut_short c.loop-place.invariant c.in_default.ensures.lookup.3)

-- the products and sums are small
pub overflow_mul-whole : goal.overflow_mul-whole
overflow_mul-whole c =
    omega (arith, scale_most c.loop-place.invariant, product_most c.loop-place.invariant c.in-Some.ensures.lookup.3.0 (c.in-Some.ensures.lookup.3.1 0) _ c.from.ensures)

pub overflow_add-whole : goal.overflow_add-whole
overflow_add-whole c =
    omega (arith, c.loop-place.invariant.small, scale_most c.loop-place.invariant, product_most c.loop-place.invariant c.in-Some.ensures.lookup.3.0 (c.in-Some.ensures.lookup.3.1 0) _ c.from.ensures)

-- the ends, and one group more
pub returns-then-byte-eq0 : goal.returns-then-byte-eq0
returns-then-byte-eq0 c =
    elim c.then-byte-eq0.branch [
      | then-byte-eq0-via-then-byte-eq0 w ↦ ends_zero c.loop-place.invariant c.in-Some.ensures.lookup.3.0 (c.in-Some.ensures.lookup.3.1 0) _ c.from.ensures c.if-byte-lt-GROUPS_END.true w.if-byte-eq0.true
      | then-byte-eq0-via-else-byte-eq0+then-whole-ge-NUMBERS_END w ↦ ends_large c.loop-place.invariant c.in-Some.ensures.lookup.3.0 (c.in-Some.ensures.lookup.3.1 0) _ c.from.ensures c.if-byte-lt-GROUPS_END.true w.if-byte-eq0.false w.if-whole-ge-NUMBERS_END.true
    ]

pub returns-then-byte-lt-GROUPS_END : goal.returns-then-byte-lt-GROUPS_END
returns-then-byte-lt-GROUPS_END c =
    ends_well c.loop-place.invariant c.in-Some.ensures.lookup.3.0 (c.in-Some.ensures.lookup.3.1 0) _ c.from.ensures c.if-byte-lt-GROUPS_END.true c.if-byte-eq0.false c.if-whole-ge-NUMBERS_END.false

pub loop-place-preserved : goal.loop-place-preserved
loop-place-preserved c =
    goes c.loop-place.invariant c.in-Some.ensures.lookup.3.0 (c.in-Some.ensures.lookup.3.1 0) _ c.from.ensures c.if-byte-lt-GROUPS_END.false
    (omega (arith, c.type_inv.input (c.args.at + c.loop-place.place), c.in-Some.ensures.lookup.3.1 0))
    c.loop-place-test.true

pub returns : goal.returns
returns c = sym (too_many c.loop-place.invariant (omega arith))
