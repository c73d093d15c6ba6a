-- `report::Season::add` meets its contract: a session that is too long is outside every report's limits, any other is settled.
use mathlib.Core.Path.{ap, sym, ◌∙◌}
use Rattle.std.specs.Result.{result_ok}
use Rattle.std.proofs.lemmas.Result.{err_from_is_err_and}
use Rattle.report.specs.Totals.{Session, totals_of}
use Rattle.report.specs.Adding.{plus}
use Rattle.report.proofs.Settling.{reported_outside}
use Rattle.report.proofs.TooLong.{too_long_outside}
use Rattle.report.proofs.Season.add.Goals as goal

pub returns-in_err-brought : goal.returns-in_err-brought
returns-in_err-brought g c =
    let a = c.args in
    let s : Session = record { id = a.id; events = a.events.now; mouse = a.mouse.now } in
    let S = g.Self.Season in
    let p = err_from_is_err_and c.from_residual.result c.from_residual.ensures.1 in
    rw p.1 (reported_outside S.having a.self.now S.LIMITS (S.told a.self.now) (plus (S.told a.self.now) (totals_of s)) (too_long_outside s S.LIMITS (S.told a.self.now) g.met.Self.Season.few (sym c.tally.ensures ∙ c.ok_or.ensures.ok_part ∙ ap result_ok c.in_err-brought.was)))
