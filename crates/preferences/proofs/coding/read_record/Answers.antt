-- `preferences::coding::read_record` meets its contract: version and count, the four fields, the fifth of version 2, and the end.
use mathlib.Core.Path.{sym, subst}
use borrow.Author.Tests.{le-leb, lt-leb}
use Rattle.std.proofs.lemmas.Result.{err_from_is_err_and}
use Rattle.preferences.specs.Steps.{fifth_for, Fours}
use Rattle.preferences.proofs.Steps.{malformed, taken, outside, head_in, one_ends, one_follows, fifth_ends, two_ends, two_follows}
use Rattle.preferences.proofs.coding.read_record.Goals as goal

pub returns-in_err-end_at-in-One : goal.returns-in_err-end_at-in-One
returns-in_err-end_at-in-One c =
    let p = err_from_is_err_and c.from_residual-in_err-end_at-in-One.result c.from_residual-in_err-end_at-in-One.ensures.1 in
    rw (p.1, p.2, c.in_err-end_at-in-One.ensures.1) (sym (one_follows _ (subst (Fours _ _) c.in_ok-fields.was c.read_four.ensures) (head_in c.read_head.ensures c.in_ok-version.was c.in-One.is) (lt-leb _ _ c.in_err-end_at-in-One.ensures.0)))

pub returns-in_ok-end_at-in-One : goal.returns-in_ok-end_at-in-One
returns-in_ok-end_at-in-One c = sym (one_ends _ (subst (Fours _ _) c.in_ok-fields.was c.read_four.ensures) (head_in c.read_head.ensures c.in_ok-version.was c.in-One.is) (le-leb _ _ c.in_ok-end_at-in-One.ensures))

pub returns-in_err-repeat-in-Two : goal.returns-in_err-repeat-in-Two
returns-in_err-repeat-in-Two c =
    let p = err_from_is_err_and c.from_residual-in_err-repeat-in-Two.result c.from_residual-in_err-repeat-in-Two.ensures.1 in
    rw (p.1, p.2) (sym (fifth_ends _ (subst (Fours _ _) c.in_ok-fields.was c.read_four.ensures) (head_in c.read_head.ensures c.in_ok-version.was c.in-Two.is) (malformed (fifth_for c.args.checks_range) c.number_at.ensures c.in_err-repeat-in-Two.was)))

pub returns-in_err-accept-in-Two : goal.returns-in_err-accept-in-Two
returns-in_err-accept-in-Two c =
    let p = err_from_is_err_and c.from_residual-in_err-accept-in-Two.result c.from_residual-in_err-accept-in-Two.ensures.1 in
    rw (p.1, p.2) (sym (fifth_ends _ (subst (Fours _ _) c.in_ok-fields.was c.read_four.ensures) (head_in c.read_head.ensures c.in_ok-version.was c.in-Two.is) (outside (fifth_for c.args.checks_range) c.number_at.ensures c.in_ok-repeat-in-Two.was c.accepts_fifth.ensures c.in_err-accept-in-Two.ensures.0 c.in_err-accept-in-Two.ensures.1)))

pub returns-in_err-end_at-in-Two : goal.returns-in_err-end_at-in-Two
returns-in_err-end_at-in-Two c =
    let p = err_from_is_err_and c.from_residual-in_err-end_at-in-Two.result c.from_residual-in_err-end_at-in-Two.ensures.1 in
    rw (p.1, p.2, c.in_err-end_at-in-Two.ensures.1) (sym (two_follows _ (subst (Fours _ _) c.in_ok-fields.was c.read_four.ensures) (head_in c.read_head.ensures c.in_ok-version.was c.in-Two.is) (taken (fifth_for c.args.checks_range) c.number_at.ensures c.in_ok-repeat-in-Two.was c.accepts_fifth.ensures c.in_ok-accept-in-Two.ensures) (lt-leb _ _ c.in_err-end_at-in-Two.ensures.0)))

pub returns-in_ok-end_at-in-Two : goal.returns-in_ok-end_at-in-Two
returns-in_ok-end_at-in-Two c = sym (two_ends _ (subst (Fours _ _) c.in_ok-fields.was c.read_four.ensures) (head_in c.read_head.ensures c.in_ok-version.was c.in-Two.is) (taken (fifth_for c.args.checks_range) c.number_at.ensures c.in_ok-repeat-in-Two.was c.accepts_fifth.ensures c.in_ok-accept-in-Two.ensures) (le-leb _ _ c.in_ok-end_at-in-Two.ensures))
