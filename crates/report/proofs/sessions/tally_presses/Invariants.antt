-- `report::sessions::tally_presses` meets its contract: up to each place the presses are counted.
use Rattle.report.proofs.Presses.{Counting}
use Rattle.report.proofs.sessions.tally_presses.Given as goal

abbrev pub invariant-loop-code : goal.invariant-loop-code
invariant-loop-code l = Counting l.codes l.code-index l.presses
