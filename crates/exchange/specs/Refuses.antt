-- Which numbers an operation can refuse with.
use Rattle.std.specs.Prelude.{ℕ, Bool, true, false, ◌||◌, List, [], ◌∷◌, T, eqb}
use Rattle.exchange.specs.Exchange.{Exchange, done, bind}
use Rattle.exchange.specs.Answer.{Answer, gives, refuses}
use Rattle.exchange.specs.Only.{Only}

-- Whether a number is one of these.
abbrev pub among : ℕ → List ℕ → Bool
among n [] = false
among n (m ∷ ns) = eqb n m || among n ns

-- An answer that gives something, or refuses with one of these numbers.
abbrev pub RefusesWith : {A : Type 0} → List ℕ → Answer A → Type 0
RefusesWith ns (gives a) = Unit
RefusesWith ns (refuses n) = T (among n ns)

-- Whatever the operation reads, it refuses with no other number than these.
abbrev pub Refuses : {A : Type 0} → List ℕ → Exchange (Answer A) → Type 0
Refuses ns t = Only (RefusesWith ns) t

-- Whether an operation gives what it is for; its refusal is forgiven. A used-up script and a full
-- log are no refusals of the operation, so they are not.
abbrev pub given : {A : Type 0} → Answer A → Bool
given (gives a) = true
given (refuses n) = false

unfoldable pub succeeds : {A : Type 0} → Exchange (Answer A) → Exchange Bool
succeeds t = bind t (λ a. done (given a))
