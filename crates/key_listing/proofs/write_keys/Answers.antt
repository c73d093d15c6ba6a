-- `key_listing::write_keys` meets its contract: at most 65,536 bytes are used.
use mathlib.Core.Path.{◌≡◌, refl}
use lib.ListN.{take}
use Rattle.std.proofs.lemmas.List.{take_min}
use Rattle.key_listing.specs.Listing.{script_limit, listing}
use Rattle.key_listing.proofs.write_keys.Goals as goal

pub returns : goal.returns
unfolding listing
returns g c =
    let cut : take c.min.result c.args.script.now ≡ take script_limit c.args.script.now = rw (c.min.ensures, take_min) refl in
    rw (← cut) c.write_calls.ensures
