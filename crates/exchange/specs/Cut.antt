-- A script that is cut short.
use Rattle.std.specs.Prelude.{ℕ, ◌*◌, ◌≤◌, ◌<◌, List, ◌≡◌, take, get_or}
use Rattle.exchange.specs.Exchange.{Port, p60, no_script, lacks, Played}

-- The play c is the play o on a script that is cut after n bytes, where o
-- read these ports, one for each byte that it used: the same where o used no
-- byte past the cut. Otherwise it ended for lack of a byte from the port that
-- o read next, with all n used. What it wrote is the first of what o wrote.
pub record Cut {A : Type 0} (n : ℕ) (ports : List Port) (o c : Played A) : Type 0 where
  pub same : o.used ≤ n → c ≡ o
  pub ends : n < o.used → c.end ≡ lacks (no_script (get_or ports n p60))
  pub uses : n < o.used → c.used ≡ n
  pub pairs_le : c.pairs ≤ o.pairs
  pub first_pairs : take (2 * c.pairs) c.log ≡ take (2 * c.pairs) o.log
