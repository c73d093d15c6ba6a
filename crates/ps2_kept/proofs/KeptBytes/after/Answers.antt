-- `KeptBytes::after` meets its contract: as of lent bytes, with nothing in the place of what was lent.
use Rattle.ps2_kept.proofs.KeptBytes.after.Goals as goal

pub returns : goal.returns
returns g c = rw c.none_kept.ensures at c.or_lent.ensures
