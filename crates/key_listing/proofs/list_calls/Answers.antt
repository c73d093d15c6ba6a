-- `key_listing::list_calls` meets its contract: a call after another, until none is to follow or no byte is left.
use native.Mathlib.Omega.{arith}
use mathlib.Core.Path.{◌≡◌}
use Prim.Native.Nat.{◌<◌}
use Rattle.buffer.proofs.Buffer.{puts_none}
use Rattle.key_listing.specs.Listing.{bytes_left}
use Rattle.key_listing.proofs.Calls.{calls_over, turn_last, turn_used, turn_fewer, turn_more}
use Rattle.key_listing.proofs.list_calls.Goals as goal

pub returns-in_default : goal.returns-in_default
returns-in_default c =
    let some : 0 < bytes_left c.loop-rest.handler c.loop-rest.rest.now = omega (arith, c.bytes_left.ensures, c.loop-rest-test.true) in
    c.loop-rest.invariant _ (turn_last _ _ some c.in_default.ensures.used c.in_default.ensures.puts)

pub slice_bounds-rest-count : goal.slice_bounds-rest-count
slice_bounds-rest-count c = turn_used _ _ c.in-Some.ensures.used

pub slice_bounds-rest-start : goal.slice_bounds-rest-start
slice_bounds-rest-start c = turn_used _ _ c.in-Some.ensures.used

pub loop-rest-smaller : goal.loop-rest-smaller
loop-rest-smaller c = rw c.in-Some.ensures.left (turn_fewer _ _ c.in-Some.ensures.used)

pub loop-rest-preserved : goal.loop-rest-preserved
loop-rest-preserved c w p =
    let some : 0 < bytes_left c.loop-rest.handler c.loop-rest.rest.now = omega (arith, c.bytes_left.ensures, c.loop-rest-test.true) in
    let e = c.in-Some.ensures in
    c.loop-rest.invariant w (turn_more _ _ some e.used e.puts (rw e.left at p))

pub returns : goal.returns
returns c =
    let none : bytes_left c.loop-rest.handler c.loop-rest.rest.now ≡ 0 = omega (arith, c.bytes_left.ensures, c.loop-rest-test.false) in
    c.loop-rest.invariant _ (rw (calls_over _ _ _ none) puts_none)
