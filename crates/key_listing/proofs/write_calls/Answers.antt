-- `key_listing::write_calls` meets its contract: a call after another, each written, until none is to follow or no byte is left.
use native.Mathlib.Omega.{arith}
use mathlib.Core.Path.{◌≡◌, sym, ◌∙◌}
use Prim.Native.Nat.{◌<◌}
use Rattle.std.proofs.Common.{rules}
use Rattle.std.proofs.KnownBytes.{Appends-nil}
use Rattle.key_listing.specs.Listing.{bytes_left}
use Rattle.key_listing.proofs.Calls.{calls_over, turn_used, turn_fewer}
use Rattle.key_listing.proofs.Writing.{wrote_last, wrote_more}
use Rattle.key_listing.proofs.write_calls.Goals as goal

pub returns-in_default : goal.returns-in_default
returns-in_default g c =
    let some : 0 < bytes_left c.loop-left.handler c.loop-left.left.now = omega (arith, c.bytes_left.ensures, c.loop-left-test.true) in
    let e = c.put_call-called.ensures in
    c.loop-left.invariant _ (wrote_last _ _ some (search rules) e.puts _ _ c.in_ok-write_all.ensures.bytes (sym c.in_default.is ∙ e.used))

pub slice_bounds-left-count : goal.slice_bounds-left-count
slice_bounds-left-count g c = turn_used _ _ (sym c.in-Some.is ∙ c.put_call-called.ensures.used)

pub slice_bounds-left-start : goal.slice_bounds-left-start
slice_bounds-left-start g c = turn_used _ _ (sym c.in-Some.is ∙ c.put_call-called.ensures.used)

pub loop-left-smaller : goal.loop-left-smaller
loop-left-smaller g c =
    let e = c.put_call-called.ensures in
    rw e.left (turn_fewer _ _ (sym c.in-Some.is ∙ e.used))

pub loop-left-preserved : goal.loop-left-preserved
loop-left-preserved g c k p =
    let some : 0 < bytes_left c.loop-left.handler c.loop-left.left.now = omega (arith, c.bytes_left.ensures, c.loop-left-test.true) in
    let e = c.put_call-called.ensures in
    c.loop-left.invariant k (wrote_more _ _ some (search rules) e.puts _ _ c.in_ok-write_all.ensures.bytes k (sym c.in-Some.is ∙ e.used) (rw e.left at p))

pub returns : goal.returns
returns g c =
    let none : bytes_left c.loop-left.handler c.loop-left.left.now ≡ 0 = omega (arith, c.bytes_left.ensures, c.loop-left-test.false) in
    let output = g.W.Write.contents c.loop-left.output in
    c.loop-left.invariant output (rw (calls_over _ _ _ none) (Appends-nil output))
