-- What functions promise that answer by numbers: the numbers are those of the operation's play.
use Rattle.std.specs.Prelude.{ℕ, List, ◌≡◌}
use Rattle.std.proofs.Math.Option.{Option, none, some}
use Rattle.exchange.specs.Exchange.{Exchange, End, play}

-- A function that has a script and a log, where `tell` says
-- what the end of a play and its counts are as numbers.
pub record Tells {A R : Type 0} (tell : End A → ℕ → ℕ → R) (operation : Exchange A)
    (script log : List ℕ) (answer : R) (log' : List ℕ) : Type 0 where
  pub answered : answer ≡ tell (play operation script log).end (play operation script log).used
      (play operation script log).pairs
  pub logged : log' ≡ (play operation script log).log

-- One that has a script alone: the same with every log,
-- which the operation leaves as it is; it writes no pair.
pub record TellsReading {A R : Type 0} (tell : End A → ℕ → ℕ → R) (operation : Exchange A)
    (script : List ℕ) (answer : R) : Type 0 where
  pub with_any : (log : List ℕ) → Tells tell operation script log answer log
  pub no_pairs : (log : List ℕ) → (play operation script log).pairs ≡ 0

-- One of an argument that is a number: what holds where the
-- number stands for nothing, and where it stands for v.
pub record AtArgument {X : Type 0} (argument : Option X) (Nothing : Type 0) (At : X → Type 0)
    : Type 0 where
  pub nothing : argument ≡ none → Nothing
  pub at : (v : X) → argument ≡ some v → At v

-- Where it stands for nothing, that is the answer, and the log
-- stays; otherwise it is the operation at what it stands for.
abbrev pub TellsAt : {X A R : Type 0} → R → (End A → ℕ → ℕ → R) → (X → Exchange A) → Option X
    → List ℕ → List ℕ → R → List ℕ → Type 0
TellsAt refusal tell operation argument script log answer log' =
    AtArgument argument ((answer ≡ refusal) × (log' ≡ log))
    (λ v. Tells tell (operation v) script log answer log')

abbrev pub TellsReadingAt : {X A R : Type 0} → R → (End A → ℕ → ℕ → R) → (X → Exchange A) → Option X
    → List ℕ → R → Type 0
TellsReadingAt refusal tell operation argument script answer =
    AtArgument argument (answer ≡ refusal) (λ v. TellsReading tell (operation v) script answer)
