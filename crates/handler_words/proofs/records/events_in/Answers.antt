-- `handler_words::records::events_in` meets its contract.
use native.Mathlib.Omega.{arith}
use Rattle.handler_words.proofs.WholeRecords.{one_more_read, all_read}
use Rattle.handler_words.proofs.records.events_in.Goals as goal

pub loop-place-preserved : goal.loop-place-preserved
loop-place-preserved c =
    let l = c.loop-place in
    one_more_read c.args.words.now l.places l.place l.invariant c.loop-place-test.true c.event_in.ensures

pub returns : goal.returns
returns c = all_read c.args.words.now _ _ c.told-words c.loop-place.invariant (omega arith)
