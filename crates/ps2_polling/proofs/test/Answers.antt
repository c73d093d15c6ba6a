-- `test` meets its contract: a command, then the wait on the whole script.
use native.Mathlib.Omega.{arith}
use Rattle.std.specs.Prelude.{Ok, Err}
use Rattle.ps2_answers.proofs.Then.{exit, all_left, writes_told, first_steps, first_stops, then_reads_ends}
use Rattle.ps2_polling.specs.Polling.{test_controller}
use Rattle.ps2_polling.proofs.test.Goals as goal

pub returns-in_err-written : goal.returns-in_err-written
unfolding test_controller
returns-in_err-written c =
    rw (exit _ _ c.from_residual.ensures.1) (first_stops _ _ _ _ _ (writes_told (Err _) c.in_err-written.ensures _))

pub returns : goal.returns
unfolding test_controller
returns c =
    let w = c.in_ok-written.ensures in
    rw c.then.ensures
    (then_reads_ends (omega (arith, c.well_formed)) (omega (arith, c.well_formed)) c.in_ok-written.written _
    (first_steps _ _ _ _ _ (writes_told (Ok _) w _)) _ (rw (all_left _ _ w.no_bytes) c.read_controller_test_result.ensures))
