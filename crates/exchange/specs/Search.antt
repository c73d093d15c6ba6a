-- What a script brings: to a repetition, turn by turn, and to one operation after another.
use Rattle.std.specs.Prelude.{ℕ, zero, suc, ◌*◌, List, ◌≡◌, drop}
use Rattle.exchange.specs.Exchange.{Exchange, yields, play}
use Rattle.exchange.specs.Repeat.{Turn, found, again}

-- Up to n turns, where One says what a turn on a script comes to and what it leaves: the last of
-- them finds something, or all n of them find nothing.
pub data Search {A : Type 0} (One : List ℕ → Turn A → List ℕ → Type 0) : ℕ → Turn A → List ℕ
    → List ℕ → Type 0 where
  over : {script : List ℕ} → Search One zero again script script
  next : {n : ℕ} {x : Turn A} {script rest end : List ℕ} → One script again rest
      → Search One n x rest end → Search One (suc n) x script end
  hit : {n : ℕ} {a : A} {script rest : List ℕ} → One script (found a) rest
      → Search One (suc n) (found a) script rest

-- What an operation leaves of the script, and of the log.
abbrev pub script_after : {A : Type 0} → Exchange A → List ℕ → List ℕ → List ℕ
script_after t script log = drop (play t script log).used script

abbrev pub log_after : {A : Type 0} → Exchange A → List ℕ → List ℕ → List ℕ
log_after t script log = drop (2 * (play t script log).pairs) (play t script log).log

-- On this script and log the first operation yields `first`,
-- and what follows it, on what is left of both, yields c.
pub record After {A B : Type 0} (t : Exchange A) (g : A → Exchange B) (script log : List ℕ)
    (first : A) (c : B) : Type 0 where
  pub before : (play t script log).end ≡ yields first
  pub after : (play (g first) (script_after t script log) (log_after t script log)).end ≡ yields c
