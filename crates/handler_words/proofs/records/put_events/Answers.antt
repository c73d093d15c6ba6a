-- `handler_words::records::put_events` meets its contract.
use native.Mathlib.Omega.{arith}
use Rattle.handler_words.proofs.WholeRecords.{one_more_stored, all_stored}
use Rattle.handler_words.proofs.records.put_events.Goals as goal

pub loop-place-preserved : goal.loop-place-preserved
loop-place-preserved c =
    let l = c.loop-place in
    one_more_stored c.args.words.now c.args.places.now l.words l.place _ l.invariant c.loop-place-test.true c.told-places _ c.event_word.ensures.0

pub returns : goal.returns
returns c = all_stored c.args.words.now c.args.places.now c.told-words c.told-places _ _ c.loop-place.invariant (omega arith)
