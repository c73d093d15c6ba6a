-- `report::settle` meets its contract: the numbers are tried one after the other, presses, packets, x and y.
use mathlib.Core.Path.{◌≡◌, sym, ◌∙◌}
use lib.Dec.{leb}
use lib.IntN.{◌+ℤ◌}
use mir.Syntax.{w64}
use mir.Val.{SFits}
use Rattle.std.proofs.lemmas.Result.{err_from_is_err_and}
use Rattle.report.specs.Adding.{plus, at_most, between, sum_within}
use Rattle.report.proofs.Ranges.{cond_ok, cond_err}
use Rattle.report.proofs.Signed64.{read_back, sum_read}
use Rattle.report.proofs.Settling.{presses_refuse, packets_refuse, x_refuses, y_refuses, refuses, accepts}
use Rattle.report.proofs.settle.Goals as goal
use Rattle.report.proofs.settle.Goals.{After-add_sum, After-add_sum-2}

-- ---- what the sums came to

low_fits : (c : After-add_sum) → SFits w64 c.args.limits.low
low_fits c = record { sfits = c.struct_told-1.given.1.0.1 }

high_fits : (c : After-add_sum) → SFits w64 c.args.limits.high
high_fits c = record { sfits = c.struct_told-2-1.given.1.1.0.1 }

x_is : (c : After-add_sum) → c.add_sum.result ≡ sum_within c.args.limits.low c.args.limits.high (c.args.old.x +ℤ c.args.more.x)
x_is c =
    let a = c.args in
    sum_read a.limits.low a.limits.high a.old.x a.more.x (low_fits c) (high_fits c) (record { sfits = c.struct_told-3-1.given.1.1.0.1 }) (record { sfits = c.struct_told-4-1.given.1.1.0.1 }) c.add_sum.ensures

low_fits-2 : (c : After-add_sum-2) → SFits w64 c.args.limits.low
low_fits-2 c = record { sfits = c.struct_told-1.given.1.0.1 }

high_fits-2 : (c : After-add_sum-2) → SFits w64 c.args.limits.high
high_fits-2 c = record { sfits = c.struct_told-2-1.given.1.1.0.1 }

y_is : (c : After-add_sum-2) → c.add_sum-2.result ≡ sum_within c.args.limits.low c.args.limits.high (c.args.old.y +ℤ c.args.more.y)
y_is c =
    let a = c.args in
    sum_read a.limits.low a.limits.high a.old.y a.more.y (low_fits-2 c) (high_fits-2 c) (record { sfits = c.struct_told-7-1.given.1.1.1.0.1 }) (record { sfits = c.struct_told-8-1.given.1.1.1.0.1 }) c.add_sum-2.ensures

-- ---- the ends

pub returns-in_err-add_counts : goal.returns-in_err-add_counts
returns-in_err-add_counts c =
    let a = c.args in
    let p = err_from_is_err_and c.from_residual.result c.from_residual.ensures.1 in
    rw p.1 (refuses a.limits (plus a.old a.more) (presses_refuse a.limits (plus a.old a.more) (cond_err (at_most a.limits.count (plus a.old a.more).presses) _ (sym c.add_counts.ensures ∙ c.in_err-add_counts.was))))

pub returns-in_err-add_count : goal.returns-in_err-add_count
returns-in_err-add_count c =
    let a = c.args in
    let p = err_from_is_err_and c.from_residual-in_err-add_count.result c.from_residual-in_err-add_count.ensures.1 in
    rw p.1 (refuses a.limits (plus a.old a.more) (packets_refuse a.limits (plus a.old a.more) (cond_err (leb (plus a.old a.more).packets a.limits.count) _ (sym c.add_count.ensures ∙ c.in_err-add_count.was))))

pub returns-in_err-add_sum : goal.returns-in_err-add_sum
returns-in_err-add_sum c =
    let a = c.args in
    let p = err_from_is_err_and c.from_residual-in_err-add_sum.result c.from_residual-in_err-add_sum.ensures.1 in
    rw p.1 (refuses a.limits (plus a.old a.more) (x_refuses a.limits (plus a.old a.more) (cond_err (between a.limits.low a.limits.high (plus a.old a.more).x) _ (sym (x_is (goal.at.returns-in_err-add_sum c).After-add_sum) ∙ c.in_err-add_sum.was))))

pub returns-in_err-add_sum-2 : goal.returns-in_err-add_sum-2
returns-in_err-add_sum-2 c =
    let a = c.args in
    let p = err_from_is_err_and c.from_residual-in_err-add_sum-2.result c.from_residual-in_err-add_sum-2.ensures.1 in
    rw p.1 (refuses a.limits (plus a.old a.more) (y_refuses a.limits (plus a.old a.more) (cond_err (between a.limits.low a.limits.high (plus a.old a.more).y) _ (sym (y_is (goal.at.returns-in_err-add_sum-2 c).After-add_sum-2) ∙ c.in_err-add_sum-2.was))))

pub returns : goal.returns
returns c =
    let a = c.args in
    let new = plus a.old a.more in
    let low = (low_fits-2 (goal.at.returns c).After-add_sum-2).sfits in
    let high = (high_fits-2 (goal.at.returns c).After-add_sum-2).sfits in
    let p = cond_ok (at_most a.limits.count new.presses) _ (sym c.add_counts.ensures ∙ c.in_ok-add_counts.was) in
    let n = cond_ok (leb new.packets a.limits.count) _ (sym c.add_count.ensures ∙ c.in_ok-add_count.was) in
    let x = cond_ok (between a.limits.low a.limits.high new.x) _ (sym (x_is (goal.at.returns c).After-add_sum) ∙ c.in_ok-add_sum.was) in
    let y = cond_ok (between a.limits.low a.limits.high new.y) _ (sym (y_is (goal.at.returns c).After-add_sum-2) ∙ c.in_ok-add_sum-2.was) in
    accepts a.limits new p.1 n.1
    (read_back a.limits.low a.limits.high _ _ low high x.0 x.1)
    (read_back a.limits.low a.limits.high _ _ low high y.0 y.1)
    p.0 n.0 x.0 y.0
