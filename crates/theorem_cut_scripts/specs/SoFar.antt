-- What a driver of real ports has of it: an operation is run
-- on the bytes read so far, and again with more of them.
use Rattle.std.specs.Prelude.{ℕ, suc, ◌*◌, ◌≤◌, List, ◌≡◌, take}
use Rattle.exchange.specs.Exchange.{Exchange, Played, lacks, no_script, play}
use Rattle.theorem_cut_scripts.specs.CutShort.{next_port}

-- The pairs that the first play wrote are the first that the
-- second wrote: in each of their places the second has the same.
pub record WroteFirst {A : Type 0} (first second : Played A) : Type 0 where
  pub no_more : first.pairs ≤ second.pairs
  pub in_place : take (2 * first.pairs) first.log ≡ take (2 * first.pairs) second.log

-- The operation on the first n bytes, on one byte more, and on the whole script: nothing is written
-- that is not written by each longer run, in that place. Where the bytes so far were not enough,
-- the lack names the port that the whole run read next, so that the driver knows which port to read
-- for that byte; otherwise the operation has ended as the whole run ends.
pub record SoFar {A : Type 0} (t : Exchange A) (n : ℕ) (script log : List ℕ) : Type 0 where
  pub one_more : WroteFirst (play t (take n script) log) (play t (take (suc n) script) log)
  pub of_whole : WroteFirst (play t (take n script) log) (play t script log)
  pub enough : (play t script log).used ≤ n → play t (take n script) log ≡ play t script log
  pub short : suc n ≤ (play t script log).used → (play t (take n script) log).end
      ≡ lacks (no_script (next_port n t script log))
