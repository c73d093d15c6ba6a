-- `Report::of_totals` meets its contract: within the limits each number fits its type.
use native.Mathlib.Omega.{arith}
use Rattle.report.specs.Narrow.{narrow_limits}
use Rattle.report.proofs.Ranges.{in_range_lem}
use Rattle.report.proofs.Narrowing.{narrow_mag, narrow_told}
use Rattle.report.proofs.ReportSeason.of_totals.Goals as goal

pub returns : goal.returns
returns c e =
    let t = c.args.totals in
    let r = in_range_lem narrow_limits t e in
    let x = narrow_told t.x (record { sfits = c.struct_told-1.given.1.1.0.1 }) (narrow_mag t.x r.x_in) c.narrow_signed.ensures in
    let y = narrow_told t.y (record { sfits = c.struct_told-2-1.given.1.1.1.0.1 }) (narrow_mag t.y r.y_in) c.narrow_signed-2.ensures in
    rw (c.narrow_counts.ensures r.counts, c.narrow.ensures (omega (arith, r.packets_low)), x, y)
