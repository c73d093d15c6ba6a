-- A script that is cut short: what a call on the ports hands back with the script's first n bytes
-- alone, beside what it hands back with all of them, with the same records and the same log.
use Rattle.std.specs.Prelude.{ℕ, ◌*◌, ◌≤◌, ◌<◌, List, ◌≡◌, take, drop, get_or}
use Rattle.exchange.specs.Exchange.{Port, p60, Exchange}
use Rattle.exchange.specs.Trace.{ports_read, accesses}

-- What a call hands back: all that it answers (the number, the value, the records, the kept bytes,
-- the count of dropped ones), the script bytes used, the pairs written, and the log as it is left.
pub record Handed (R : Type 0) : Type 0 where
  pub back : R
  pub used : ℕ
  pub pairs : ℕ
  pub log : List ℕ

abbrev pub handed : {R : Type 0} → R → ℕ → ℕ → List ℕ → Handed R
handed r u w l = record { back = r; used = u; pairs = w; log = l }

-- The port that an operation on this script and log reads next after n bytes.
abbrev pub next_port : {A : Type 0} → ℕ → Exchange A → List ℕ → List ℕ → Port
next_port n t script log = get_or (ports_read (accesses t script log)) n p60

-- The two calls, where `two` is what is handed back with
-- the answer 2, and `log` is the log as it was lent.
pub record CutShort {R : Type 0} (n : ℕ) (two : R) (log : List ℕ) (whole cut : Handed R)
    : Type 0 where
  -- "The answer is the uncut one where that run used no byte
  -- past the cut": all that is handed back is, an uncut 3 too.
  pub same : whole.used ≤ n → cut ≡ whole
  -- "Otherwise 2", with all n bytes used.
  pub otherwise : n < whole.used → cut.back ≡ two
  pub uses : n < whole.used → cut.used ≡ n
  -- "A log whose written pairs are the first ones of the uncut run"; behind them it is as it was.
  pub no_more : cut.pairs ≤ whole.pairs
  pub first_pairs : take (2 * cut.pairs) cut.log ≡ take (2 * cut.pairs) whole.log
  pub rest : drop (2 * cut.pairs) cut.log ≡ drop (2 * cut.pairs) log
