-- `polling_send_receive` meets its contract: a sending, which keeps nothing, then a receiving from what is left of the script.
use native.Mathlib.Omega.{arith}
use Rattle.exchange.proofs.Counts.{counts}
use Rattle.ps2_answers.specs.Answers.{ended}
use Rattle.ps2_answers.specs.Refusals.{Success}
use Rattle.ps2_answers.proofs.Then.{exit}
use Rattle.ps2_kept.proofs.Contracts.{plays_lent, unchanged_lent}
use Rattle.ps2_kept.proofs.Then.{no_data_steps, no_data_stops, kept_then_reads_ends}
use Rattle.ps2_polling.specs.Polling.{polling_receive, polling_send_receive}
use Rattle.ps2_polling.proofs.Receiving.{no_data_send}
use Rattle.ps2_polling.proofs.polling_send_receive.Goals as goal

pub returns-in_err-sent : goal.returns-in_err-sent
unfolding polling_send_receive
returns-in_err-sent c =
    rw (exit _ _ c.from_residual.ensures.1)
    (unchanged_lent _ _ (no_data_stops _ (λ (_ : Success). polling_receive) (no_data_send _) _ _ _ _ c.in_err-sent.ensures))

pub returns : goal.returns
unfolding polling_send_receive
returns c =
    plays_lent (ended c.then-received.result) _ c.or_lent.ensures
    (rw c.then-received.ensures
    (kept_then_reads_ends (omega (arith, c.well_formed)) (omega (arith, c.well_formed)) c.in_ok-sent.sent _
    (no_data_steps _ (λ (_ : Success). polling_receive) (no_data_send _) _ _ _ _ c.in_ok-sent.ensures) _ _ c.polling_receive_keeping.ensures))

pub slice_bounds-polling_receive_keeping-count : goal.slice_bounds-polling_receive_keeping-count
slice_bounds-polling_receive_keeping-count c = search (counts, c.in_ok-sent.ensures)

pub slice_bounds-polling_receive_keeping-start : goal.slice_bounds-polling_receive_keeping-start
slice_bounds-polling_receive_keeping-start c = search (counts, c.in_ok-sent.ensures)
