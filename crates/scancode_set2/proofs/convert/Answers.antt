-- `scancode_set2::convert` meets its contract. The loop's invariant is how far the conversion has come; each return is where nothing more is converted.
use Prim.Native.Nat.{ℕ, ◌-◌, ◌<◌}
use lib.ListN.{get_or}
use native.Mathlib.Omega.{arith}
use Rattle.std.proofs.Math.Facts.{Fits-lt-pow}
use Rattle.scancode_set2.proofs.Bytes.{low_there, high_there, after_there}
use Rattle.scancode_set2.proofs.Codes.{cut_at}
use Rattle.scancode_set2.proofs.Progress.{reached_end, stop_done, stop_22, stop_23, stop_24, Stands, goes_on, so_far}
use Rattle.scancode_set2.proofs.convert.Goals as goal
use Rattle.scancode_set2.proofs.convert.Goals.{then-code-lt-TOP_BIT, else-code-lt-TOP_BIT+then-code+else-after-stream, else-code-lt-TOP_BIT+else-code}

-- F0 at the end
pub returns-then-after-stream : goal.returns-then-after-stream
returns-then-after-stream c =
    let l = c.loop-used in
    let stream = c.args.stream.now in
    reached_end l.invariant (stop_24 stream l.used _ (cut_at stream l.used c.loop-used-test.true c.if-code.true (omega (arith, c.if-after-stream.true))))

-- Below, where the kinds of code meet: a code stands at the place, of the bytes up to the next, and becomes the byte.

-- a code without an entry
pub returns-then-byte-eq-NO_ENTRY : goal.returns-then-byte-eq-NO_ENTRY
returns-then-byte-eq-NO_ENTRY c =
    let h = c.loop-used-test.true in
    let fits : (i : ℕ) → get_or c.args.stream.now i 0 < 0x100 = λ i. Fits-lt-pow (c.type_inv.stream i) in
    let stands : Stands c.args.stream.now c.loop-used.used c.if-code-lt-TOP_BIT.byte (c.if-code-lt-TOP_BIT.next - c.loop-used.used) =
    elim c.if-code-lt-TOP_BIT.branch [
      | then-code-lt-TOP_BIT w ↦ low_there h fits w.if-code-lt-TOP_BIT.true (rw (w.byte-is, w.from.ensures)) w.next-is
      | else-code-lt-TOP_BIT+then-code+else-after-stream w ↦ after_there h fits w.if-code.true w.if-after-stream.false (rw (w.byte-is, w.from-then-code.ensures)) w.next-is
      | else-code-lt-TOP_BIT+else-code w ↦ high_there h fits w.if-code-lt-TOP_BIT.false w.if-code.false (rw (w.byte-is, w.from-else-code.ensures)) w.next-is
    ]
    in
    reached_end c.loop-used.invariant (stop_22 stands _ c.if-byte-eq-NO_ENTRY.true)

-- a full output
pub returns-then-out-written : goal.returns-then-out-written
returns-then-out-written c =
    let h = c.loop-used-test.true in
    let fits : (i : ℕ) → get_or c.args.stream.now i 0 < 0x100 = λ i. Fits-lt-pow (c.type_inv.stream i) in
    let stands : Stands c.args.stream.now c.loop-used.used c.if-code-lt-TOP_BIT.byte (c.if-code-lt-TOP_BIT.next - c.loop-used.used) =
    elim c.if-code-lt-TOP_BIT.branch [
      | then-code-lt-TOP_BIT w ↦ low_there h fits w.if-code-lt-TOP_BIT.true (rw (w.byte-is, w.from.ensures)) w.next-is
      | else-code-lt-TOP_BIT+then-code+else-after-stream w ↦ after_there h fits w.if-code.true w.if-after-stream.false (rw (w.byte-is, w.from-then-code.ensures)) w.next-is
      | else-code-lt-TOP_BIT+else-code w ↦ high_there h fits w.if-code-lt-TOP_BIT.false w.if-code.false (rw (w.byte-is, w.from-else-code.ensures)) w.next-is
    ]
    in
    reached_end c.loop-used.invariant (stop_23 stands (λ e. omega (arith, e)) _ (omega arith))

pub loop-used-preserved : goal.loop-used-preserved
loop-used-preserved c =
    let h = c.loop-used-test.true in
    let fits : (i : ℕ) → get_or c.args.stream.now i 0 < 0x100 = λ i. Fits-lt-pow (c.type_inv.stream i) in
    let stands : Stands c.args.stream.now c.loop-used.used c.if-code-lt-TOP_BIT.byte (c.if-code-lt-TOP_BIT.next - c.loop-used.used) =
    elim c.if-code-lt-TOP_BIT.branch [
      | then-code-lt-TOP_BIT w ↦ low_there h fits w.if-code-lt-TOP_BIT.true (rw (w.byte-is, w.from.ensures)) w.next-is
      | else-code-lt-TOP_BIT+then-code+else-after-stream w ↦ after_there h fits w.if-code.true w.if-after-stream.false (rw (w.byte-is, w.from-then-code.ensures)) w.next-is
      | else-code-lt-TOP_BIT+else-code w ↦ high_there h fits w.if-code-lt-TOP_BIT.false w.if-code.false (rw (w.byte-is, w.from-else-code.ensures)) w.next-is
    ]
    in
    so_far (omega (arith, stands.some_bytes)) (goes_on stands c.if-byte-eq-NO_ENTRY.false c.loop-used.invariant (omega arith) c.if-out-written.false)

pub returns : goal.returns
returns c = reached_end c.loop-used.invariant (stop_done _ _ _ c.loop-used-test.false)
