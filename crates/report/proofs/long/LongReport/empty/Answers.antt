-- `report::long::LongReport::empty` meets its contract.
use mathlib.Core.Path.{refl}
use Rattle.report.specs.Keys.{values_from}
use Rattle.report.proofs.long.LongReport.empty.Goals as goal

pub returns : goal.returns
unfolding values_from
returns c = refl
