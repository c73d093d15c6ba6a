-- `polling_receive_keeping` meets its contract: the invariant is how far the definition's repetition has come, with the bytes kept so far; a poll is one turn of it.
use native.Mathlib.Omega.{arith}
use mathlib.Core.Path.{refl, ap}
use Rattle.exchange.specs.Exchange.{yields}
use Rattle.exchange.proofs.KeepingRepeat.{kept_over, kept_again, kept_end_lem}
use Rattle.ps2_answers.specs.Answers.{turn_end}
use Rattle.ps2_answers.specs.Refusals.{refused}
use Rattle.ps2_answers.proofs.Then.{exit}
use Rattle.ps2_answers.proofs.Reading.{read_start, reads_pairs, read_brought, read_stopped}
use Rattle.ps2_polling.specs.Polling.{polled, polling_receive}
use Rattle.ps2_polling.proofs.Receiving.{poll_heard, poll_nothing, poll_refused}
use Rattle.ps2_polling.proofs.polling_receive_keeping.Goals as goal
use Rattle.ps2_polling.proofs.polling_receive_keeping.Goals.{in-Some+in_default-try_from, in_default}

pub loop-polls-init : goal.loop-polls-init
unfolding polling_receive
loop-polls-init c = rw c.new-at.ensures (read_start _ _)

pub returns-in_err-at : goal.returns-in_err-at
returns-in_err-at c =
    let at = c.loop-polls.invariant in
    let r = c.poll_data.ensures in
    let k = read_stopped (omega (arith, c.well_formed)) c.loop-polls.at at _ r _ c.in_err-at.ensures in
    rw (exit _ _ c.from_residual.ensures.1, k.used)
    (reads_pairs (kept_end_lem _ _ _ _ _ at.to _ _ (poll_refused _ _ c.in_err-at.field-0.0.value (rw (ap (turn_end polled) k.is) at r)) (refused _) (omega arith) refl)
    (omega (arith, k.pairs, at.no_pairs, r.no_pairs)))

pub returns-then-polls-eq0 : goal.returns-then-polls-eq0
returns-then-polls-eq0 c =
    let at = c.loop-polls.invariant in
    rw c.with.ensures (reads_pairs (kept_over _ _ _ _ _ at.to (omega arith)) at.no_pairs)

pub returns-in-Ok : goal.returns-in-Ok
returns-in-Ok c =
    let at = c.loop-polls.invariant in
    let r = c.poll_data.ensures in
    let k = read_brought (omega (arith, c.well_formed)) c.loop-polls.at at _ r _ c.in_ok-at.ensures in
    rw (c.with-in-Ok.ensures, k.used)
    (reads_pairs (kept_end_lem _ _ _ _ _ at.to _ _
    (poll_heard _ _ _ c.try_from.ensures c.in-Ok.is (rw (ap (turn_end polled) k.is, c.in-Some.is) at r)) (yields _) (omega arith) refl)
    (omega (arith, k.pairs, at.no_pairs, r.no_pairs)))

pub loop-polls-preserved : goal.loop-polls-preserved
loop-polls-preserved c =
    let at = c.loop-polls.invariant in
    let r = c.poll_data.ensures in
    let k = read_brought (omega (arith, c.well_formed)) c.loop-polls.at at _ r _ c.in_ok-at.ensures in
    elim c.match-at.branch [
      | in-Some+in_default-try_from w ↦ rw (w.kept-is, w.add.ensures, k.used)
          (record {
            to = kept_again _ _ _ _ _ at.to _ _ (poll_heard _ _ _ w.try_from.ensures w.in_default-try_from.is (rw (ap (turn_end polled) k.is, w.in-Some.is) at r)) _ (omega arith) refl;
            no_pairs = omega (arith, k.pairs, at.no_pairs, r.no_pairs);
          })
      | in_default w ↦ rw (w.kept-is, k.used)
          (record {
            to = kept_again _ _ _ _ _ at.to _ _ (poll_nothing _ _ (rw (ap (turn_end polled) k.is, w.in_default.is) at r)) _ (omega arith) refl;
            no_pairs = omega (arith, k.pairs, at.no_pairs, r.no_pairs);
          })
    ]
