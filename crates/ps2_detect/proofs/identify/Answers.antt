-- `ps2_detect::identify` meets its contract: the search, then the command, unless the search lacked a byte.
use native.Mathlib.Omega.{arith}
use Prim.Native.Nat.{◌*◌}
use mathlib.Core.Path.{◌≡◌, sym, ◌∙◌}
use Rattle.exchange.specs.Position.{Reached}
use Rattle.exchange.proofs.Position.{reached_same}
use Rattle.ps2_answers.proofs.Then.{exit, all_left, all_restored, reads_told, then_ends}
use Rattle.ps2_answers.proofs.Forgiving.{outcome, outcome_steps, outcome_stops}
use Rattle.ps2_detect.specs.Detection.{type_search}
use Rattle.ps2_detect.specs.Parts.{enabled_after, identification}
use Rattle.ps2_detect.specs.Answers.{said_found}
use Rattle.ps2_detect.proofs.Turns.{found_said}
use Rattle.ps2_detect.proofs.identify.Goals as goal

pub returns-in_err-found : goal.returns-in_err-found
returns-in_err-found c =
    rw (exit _ _ c.from_residual.ensures.1)
    (outcome_stops type_search (λ type. enabled_after type) _ _ _ (reads_told _ c.poll_keyboard_type.ensures _) _ c.in_err-found.ensures)

pub slice_bounds-enable_scanning-count : goal.slice_bounds-enable_scanning-count
slice_bounds-enable_scanning-count c =
    (outcome_steps type_search (λ type. enabled_after type) _ c.args.log.now _ (reads_told _ c.poll_keyboard_type.ensures _) _ c.in_ok-found.ensures).used_le

pub slice_bounds-enable_scanning-start : goal.slice_bounds-enable_scanning-start
slice_bounds-enable_scanning-start c = slice_bounds-enable_scanning-count c

pub returns : goal.returns
returns c =
    let f = c.in_ok-found.found in
    let l = c.args.log.now in
    let at : Reached identification c.args.script.now l (enabled_after (said_found f.value)) f.used f.pairs l =
    reached_same (outcome_steps type_search (λ type. enabled_after type) _ _ _ (reads_told _ c.poll_keyboard_type.ensures l) _ c.in_ok-found.ensures) (found_said f.value)
    in
    let p : f.pairs ≡ 0 = sym (outcome _ _ c.in_ok-found.ensures).pairs ∙ c.poll_keyboard_type.ensures.no_pairs in
    let z : 2 * f.pairs ≡ 0 = omega arith in
    rw c.then.ensures
    (rw (all_restored l c.enable_scanning.new.log (2 * f.pairs) z) at
    (then_ends (omega (arith, c.well_formed)) (omega (arith, c.well_formed)) f (enabled_after (said_found f.value)) at c.enable_scanning.result {m = c.enable_scanning.new.log}
    (rw (all_left l (2 * f.pairs) z) c.enable_scanning.ensures)))
