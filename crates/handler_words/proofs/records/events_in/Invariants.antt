-- `handler_words::records::events_in` meets its contract.
use Rattle.handler_words.proofs.WholeRecords.{Read}
use Rattle.handler_words.proofs.records.events_in.Given as goal

abbrev pub invariant-loop-place : goal.invariant-loop-place
invariant-loop-place l = Read l.words l.places l.place
