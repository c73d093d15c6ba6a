-- `preferences::coding::read_four` meets its contract: the fields one after another.
use Rattle.std.proofs.lemmas.Result.{err_from_is_err_and}
use Rattle.preferences.specs.Values.{is_scancode_set, is_sampling_rate, is_resolution, is_lamps}
use Rattle.preferences.proofs.Steps.{malformed, taken, outside, first_refused, second_refused, third_refused, fourth_refused, four_read}
use Rattle.preferences.proofs.coding.read_four.Goals as goal

pub returns-in_err-set : goal.returns-in_err-set
returns-in_err-set c =
    let p = err_from_is_err_and c.from_residual.result c.from_residual.ensures.1 in
    rw (p.1, p.2) (first_refused (malformed is_scancode_set c.number_at.ensures c.in_err-set.was))

pub returns-in_err-accept : goal.returns-in_err-accept
returns-in_err-accept c =
    let p = err_from_is_err_and c.from_residual-in_err-accept.result c.from_residual-in_err-accept.ensures.1 in
    rw (p.1, p.2) (first_refused (outside is_scancode_set c.number_at.ensures c.in_ok-set.was c.is_scancode_set.ensures c.in_err-accept.ensures.0 c.in_err-accept.ensures.1))

pub returns-in_err-rate : goal.returns-in_err-rate
returns-in_err-rate c =
    let p = err_from_is_err_and c.from_residual-in_err-rate.result c.from_residual-in_err-rate.ensures.1 in
    rw (p.1, p.2) (second_refused (taken is_scancode_set c.number_at.ensures c.in_ok-set.was c.is_scancode_set.ensures c.in_ok-accept.ensures) (malformed is_sampling_rate c.number_at-2.ensures c.in_err-rate.was))

pub returns-in_err-accept-2 : goal.returns-in_err-accept-2
returns-in_err-accept-2 c =
    let p = err_from_is_err_and c.from_residual-in_err-accept-2.result c.from_residual-in_err-accept-2.ensures.1 in
    rw (p.1, p.2) (second_refused (taken is_scancode_set c.number_at.ensures c.in_ok-set.was c.is_scancode_set.ensures c.in_ok-accept.ensures) (outside is_sampling_rate c.number_at-2.ensures c.in_ok-rate.was c.is_sampling_rate.ensures c.in_err-accept-2.ensures.0 c.in_err-accept-2.ensures.1))

pub returns-in_err-resolution : goal.returns-in_err-resolution
returns-in_err-resolution c =
    let p = err_from_is_err_and c.from_residual-in_err-resolution.result c.from_residual-in_err-resolution.ensures.1 in
    rw (p.1, p.2) (third_refused (taken is_scancode_set c.number_at.ensures c.in_ok-set.was c.is_scancode_set.ensures c.in_ok-accept.ensures) (taken is_sampling_rate c.number_at-2.ensures c.in_ok-rate.was c.is_sampling_rate.ensures c.in_ok-accept-2.ensures) (malformed is_resolution c.number_at-3.ensures c.in_err-resolution.was))

pub returns-in_err-accept-3 : goal.returns-in_err-accept-3
returns-in_err-accept-3 c =
    let p = err_from_is_err_and c.from_residual-in_err-accept-3.result c.from_residual-in_err-accept-3.ensures.1 in
    rw (p.1, p.2) (third_refused (taken is_scancode_set c.number_at.ensures c.in_ok-set.was c.is_scancode_set.ensures c.in_ok-accept.ensures) (taken is_sampling_rate c.number_at-2.ensures c.in_ok-rate.was c.is_sampling_rate.ensures c.in_ok-accept-2.ensures) (outside is_resolution c.number_at-3.ensures c.in_ok-resolution.was c.is_resolution.ensures c.in_err-accept-3.ensures.0 c.in_err-accept-3.ensures.1))

pub returns-in_err-lamps : goal.returns-in_err-lamps
returns-in_err-lamps c =
    let p = err_from_is_err_and c.from_residual-in_err-lamps.result c.from_residual-in_err-lamps.ensures.1 in
    rw (p.1, p.2) (fourth_refused (taken is_scancode_set c.number_at.ensures c.in_ok-set.was c.is_scancode_set.ensures c.in_ok-accept.ensures) (taken is_sampling_rate c.number_at-2.ensures c.in_ok-rate.was c.is_sampling_rate.ensures c.in_ok-accept-2.ensures) (taken is_resolution c.number_at-3.ensures c.in_ok-resolution.was c.is_resolution.ensures c.in_ok-accept-3.ensures) (malformed is_lamps c.number_at-4.ensures c.in_err-lamps.was))

pub returns-in_err-accept-4 : goal.returns-in_err-accept-4
returns-in_err-accept-4 c =
    let p = err_from_is_err_and c.from_residual-in_err-accept-4.result c.from_residual-in_err-accept-4.ensures.1 in
    rw (p.1, p.2) (fourth_refused (taken is_scancode_set c.number_at.ensures c.in_ok-set.was c.is_scancode_set.ensures c.in_ok-accept.ensures) (taken is_sampling_rate c.number_at-2.ensures c.in_ok-rate.was c.is_sampling_rate.ensures c.in_ok-accept-2.ensures) (taken is_resolution c.number_at-3.ensures c.in_ok-resolution.was c.is_resolution.ensures c.in_ok-accept-3.ensures) (outside is_lamps c.number_at-4.ensures c.in_ok-lamps.was c.is_lamps.ensures c.in_err-accept-4.ensures.0 c.in_err-accept-4.ensures.1))

pub returns : goal.returns
returns c = four_read (taken is_scancode_set c.number_at.ensures c.in_ok-set.was c.is_scancode_set.ensures c.in_ok-accept.ensures) (taken is_sampling_rate c.number_at-2.ensures c.in_ok-rate.was c.is_sampling_rate.ensures c.in_ok-accept-2.ensures) (taken is_resolution c.number_at-3.ensures c.in_ok-resolution.was c.is_resolution.ensures c.in_ok-accept-3.ensures) (taken is_lamps c.number_at-4.ensures c.in_ok-lamps.was c.is_lamps.ensures c.in_ok-accept-4.ensures)
