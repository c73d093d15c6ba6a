-- A bounded repetition: polls, and attempts.
use Rattle.std.specs.Prelude.{ℕ, zero, suc, ◌*◌, List, [], ◌++◌, ◌≡◌, drop}
use Rattle.exchange.specs.Exchange.{Exchange, done, bind, End, yields, told_end, play}

-- What one turn comes to: an answer, or another turn.
pub data Turn (A : Type 0) : Type 0 where
  found : A → Turn A
  again : Turn A

-- What follows a turn: nothing after an answer, and otherwise the rest.
abbrev pub turned : {A : Type 0} → Turn A → Exchange A → Exchange A
turned (found a) rest = done a
turned again rest = rest

-- The end of a turn that is the end of the whole: an answer found, or a lack of script or log.
abbrev pub found_end : {A : Type 0} → End A → End (Turn A)
found_end e = told_end found e

-- At most n turns, up to the first that finds an answer; `otherwise` where none of them does.
unfoldable pub repeat : {A : Type 0} → ℕ → A → Exchange (Turn A) → Exchange A
repeat zero otherwise turn = done otherwise
repeat (suc n) otherwise turn = bind turn (λ r. turned r (repeat n otherwise turn))

-- The script and the log begin with n turns, one after another, none of which finds an answer.
pub data Silent {A : Type 0} (turn : Exchange (Turn A)) : ℕ → List ℕ → List ℕ → Type 0 where
  over : {script log : List ℕ} → Silent turn zero script log
  silent : {n : ℕ} {script log : List ℕ} → (play turn script log).end ≡ yields again
      → Silent turn n (drop (play turn script log).used script)
      (drop (2 * (play turn script log).pairs) (play turn script log).log)
      → Silent turn (suc n) script log

-- A list n times over.
abbrev pub times : ℕ → List ℕ → List ℕ
times zero l = []
times (suc n) l = l ++ times n l
