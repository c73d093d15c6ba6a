-- `handler_words::records::put_events` meets its contract.
use Rattle.handler_words.proofs.WholeRecords.{Stored}
use Rattle.handler_words.proofs.records.put_events.Given as goal

abbrev pub invariant-loop-place : goal.invariant-loop-place
invariant-loop-place l = Stored l.initial.words l.places l.words l.place
