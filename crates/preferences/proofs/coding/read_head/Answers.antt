-- `preferences::coding::read_head` meets its contract: the version, then the count that the version says.
use native.Mathlib.Omega.{arith}
use Rattle.std.proofs.lemmas.Result.{err_from_is_err_and}
use Rattle.preferences.specs.Reading.{is_version, is_count}
use Rattle.preferences.specs.Steps.{version_number}
use Rattle.preferences.proofs.Steps.{malformed, counted, miscounted, versioned, unversioned, head_refused, count_refused, head_read}
use Rattle.preferences.proofs.coding.read_head.Goals as goal

pub returns-in_err-number : goal.returns-in_err-number
returns-in_err-number c =
    let p = err_from_is_err_and c.from_residual.result c.from_residual.ensures.1 in
    rw (p.1, p.2) (head_refused (malformed is_version c.number_at.ensures c.in_err-number.was))

pub returns-in_err-version : goal.returns-in_err-version
returns-in_err-version c =
    let p = err_from_is_err_and c.from_residual-in_err-version.result c.from_residual-in_err-version.ensures.1 in
    rw (p.1, p.2) (unversioned c.number_at.ensures c.in_ok-number.was c.try_from.ensures c.in_err-version.was)

pub returns-in_err-count : goal.returns-in_err-count
returns-in_err-count c =
    let v = c.in_ok-version.version in
    let p = err_from_is_err_and c.from_residual-in_err-count.result c.from_residual-in_err-count.ensures.1 in
    rw (p.1, p.2) (count_refused v (versioned c.number_at.ensures c.in_ok-number.was c.try_from.ensures c.in_ok-version.was) (malformed (is_count (version_number v)) c.number_at-2.ensures c.in_err-count.was))

pub returns-in_err-accept : goal.returns-in_err-accept
returns-in_err-accept c =
    let v = c.in_ok-version.version in
    let p = err_from_is_err_and c.from_residual-in_err-accept.result c.from_residual-in_err-accept.ensures.1 in
    rw (p.1, p.2) (count_refused v (versioned c.number_at.ensures c.in_ok-number.was c.try_from.ensures c.in_ok-version.was) (miscounted (version_number v) c.number_at-2.ensures c.in_ok-count.was c.in_err-accept.ensures.0 c.in_err-accept.ensures.1 (omega (arith, c.field_count.ensures))))

pub returns : goal.returns
returns c =
    let v = c.in_ok-version.version in
    head_read v (versioned c.number_at.ensures c.in_ok-number.was c.try_from.ensures c.in_ok-version.was) (counted (version_number v) c.number_at-2.ensures c.in_ok-count.was c.in_ok-accept.ensures (omega (arith, c.field_count.ensures)))
