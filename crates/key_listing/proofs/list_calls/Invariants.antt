-- `key_listing::list_calls` meets its contract: whoever puts the listing of what is left has put the whole listing.
use Rattle.buffer.specs.declared.Writer.{Writer}
use Rattle.buffer.specs.Writer.{Puts}
use Rattle.key_listing.specs.Listing.{at_first, bytes_left, listing_from}
use Rattle.key_listing.proofs.list_calls.Given as goal

abbrev pub invariant-loop-rest : goal.invariant-loop-rest
invariant-loop-rest l =
    (w : Writer) → Puts (listing_from l.handler l.rest) l.out w → Puts (listing_from at_first l.script) l.initial.out w

abbrev pub decreases-loop-rest : goal.decreases-loop-rest
decreases-loop-rest l = bytes_left l.handler l.rest
