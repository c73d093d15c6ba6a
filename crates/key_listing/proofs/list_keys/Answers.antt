-- `key_listing::list_keys` meets its contract: at most 65,536 bytes are used, and what the writer left in the buffer its lender has.
use mathlib.Core.Path.{◌≡◌, refl}
use lib.ListN.{take}
use Rattle.std.proofs.Common.{rules}
use Rattle.std.proofs.lemmas.List.{take_min}
use Rattle.key_listing.specs.Listing.{script_limit, listing}
use Rattle.buffer.proofs.Buffer.{puts_holds}
use Rattle.key_listing.proofs.list_keys.Goals as goal

pub returns : goal.returns
unfolding listing
returns c =
    let cut : take c.min.result c.args.script.now ≡ take script_limit c.args.script.now = rw (c.min.ensures, take_min) refl in
    rw (← cut) (puts_holds c.list_calls.ensures refl refl (search rules))
