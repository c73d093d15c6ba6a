-- A log with more room: an operation that found none for a write is run again, on the same script.
use Rattle.std.specs.Prelude.{ℕ, List, ◌++◌, ◌≡◌}
use Rattle.exchange.specs.Exchange.{Exchange, no_log, lacks, played, play}
use Rattle.theorem_cut_scripts.specs.SoFar.{WroteFirst}

-- The operation with this log, and with one that has more bytes behind it. What is written with the
-- shorter is written with the longer, in that place. Where it was not room that it lacked (3), the
-- rest is the same: the end, the counts, and the log, with the further bytes as they were.
pub record WithRoom {A : Type 0} (t : Exchange A) (script log more : List ℕ) : Type 0 where
  pub wrote : WroteFirst (play t script log) (play t script (log ++ more))
  pub same : ((play t script log).end ≡ lacks no_log → ⊥)
      → play t script (log ++ more)
      ≡ played (play t script log).end (play t script log).used (play t script log).pairs
      ((play t script log).log ++ more)
