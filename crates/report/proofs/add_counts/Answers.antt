-- `report::add_counts` meets its contract: up to each key the counts are added, and none is above the limit.
use mathlib.Core.Path.{sym, ◌∙◌}
use Rattle.std.proofs.lemmas.Result.{err_from_is_err_and}
use Rattle.report.proofs.Ranges.{adding_fails, adding_ends}
use Rattle.report.proofs.add_counts.Goals as goal

pub returns-in_err-counts : goal.returns-in_err-counts
returns-in_err-counts c =
    let p = err_from_is_err_and c.from_residual.result c.from_residual.ensures.1 in
    rw p.1 (adding_fails c.loop-i.invariant c.loop-i-test.true (sym c.add_count.ensures ∙ c.in_err-counts.was))

pub returns : goal.returns
returns c = adding_ends c.loop-i.invariant c.loop-i-test.false
