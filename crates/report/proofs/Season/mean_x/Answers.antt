-- `report::Season::mean_x` meets its contract: the mean of the sum that the report's numbers tell.
use mathlib.Core.Path.{◌≡◌}
use mir.Syntax.{w64}
use mir.Val.{to_z, of_z}
use Rattle.std.proofs.Common.{rules}
use Rattle.report.specs.Mean.{mean_of}
use Rattle.report.proofs.Season.mean_x.Goals as goal

pub returns : goal.returns
returns g c =
    let m : c.mean_of.result ≡ mean_of (to_z w64 (of_z w64 c.numbers-totals.result.x)) c.numbers-totals.result.packets = c.mean_of.ensures in
    search (rules, m)
