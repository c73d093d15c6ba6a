-- `key_listing::write_calls` meets its contract: whoever appends the listing of what is left has appended the whole listing.
use mathlib.Core.List.{List}
use Prim.Native.Nat.{ℕ}
use Rattle.std.specs.Prelude.{Option}
use Rattle.std.specs.Io.KnownBytes.{Appends}
use Rattle.key_listing.specs.Listing.{at_first, bytes_left, listing_from}
use Rattle.key_listing.proofs.write_calls.Given as goal

abbrev pub invariant-loop-left : goal.invariant-loop-left
invariant-loop-left g l =
    (k : Option (List ℕ)) → Appends (g.W.Write.contents l.output) k (listing_from l.handler l.left)
    → Appends (g.W.Write.contents l.initial.output) k (listing_from at_first l.script)

abbrev pub decreases-loop-left : goal.decreases-loop-left
decreases-loop-left g l = bytes_left l.handler l.left
