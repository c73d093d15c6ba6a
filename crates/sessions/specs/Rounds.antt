-- A talk as its questions, one after another; and what is left of it after some replies.
use Rattle.std.specs.Prelude.{Bool, true, false, ℕ, zero, suc, List, [], ◌∷◌, Option, Result, Ok, Err}
use Rattle.exchange.specs.Exchange.{Exchange, done, bind}
use Rattle.ps2_answers.specs.Refusals.{Success, success}
use Rattle.ps2_answers.specs.declared.Failure.{Failure}
use Rattle.questions.specs.declared.Question.{Question}
use Rattle.questions.specs.declared.Going.{Going}
use Rattle.questions.specs.Asked.{asked, going}
use Rattle.talks.specs.declared.Stop.{Stop}
use Rattle.talks.specs.declared.Stop.TheVariants.{Asks, Refused}
use Rattle.talks.specs.Talk.{Talk, tells, asks, next, failing_as, trying, worked, attempting, replaced, is_done}
use Rattle.sessions.specs.Memory.{reply_in}

-- It is over, or the next question is asked, and it goes on by the reply.
pub data Rounds (R : Type 0) : Type 0 where
  over : R → Rounds R
  round : Question → (Option ℕ → Rounds R) → Rounds R

unfoldable pub joined : {R S : Type 0} → Rounds R → (R → Rounds S) → Rounds S
joined (over r) g = g r
joined (round q k) g = round q (λ r. joined (k r) g)

abbrev pub on_done : {A B : Type 0} → (A → Rounds (Result B Failure)) → Result A Failure
    → Rounds (Result B Failure)
on_done g (Ok a) = g a
on_done g (Err f) = over (Err f)

abbrev pub unless_accepted : Rounds (Result Success Failure) → Result Bool Failure
    → Rounds (Result Success Failure)
unless_accepted rest (Ok true) = over (Ok success)
unless_accepted rest (Ok false) = rest
unless_accepted rest (Err f) = over (Err f)

unfoldable pub attempt_rounds : ℕ → Failure → Rounds (Result Bool Failure)
    → Rounds (Result Success Failure)
attempt_rounds zero f r = over (Err f)
attempt_rounds (suc n) f r = joined r (unless_accepted (attempt_rounds n f r))

unfoldable pub rounds : {A : Type 0} → Talk A → Rounds (Result A Failure)
rounds (tells r) = over r
rounds (asks q) = round q (λ r. over (Ok r))
rounds (next t g) = joined (rounds t) (λ r. on_done (λ a. rounds (g a)) r)
rounds (failing_as f t) = joined (rounds t) (λ r. over (replaced f r))
rounds (trying t) = joined (rounds t) (λ r. over (Ok r))
rounds (worked t) = joined (rounds t) (λ r. over (Ok (is_done r)))
rounds (attempting n f t) = attempt_rounds n f (rounds t)

-- The exchange that rounds make.
unfoldable pub exchange_of : {R : Type 0} → Rounds R → Exchange R
exchange_of (over r) = done r
exchange_of (round q k) = bind (asked q) (λ r. exchange_of (k r))

-- What is left after one reply, and after several.
abbrev pub answered : {R : Type 0} → Rounds R → Option ℕ → Rounds R
answered (over r) x = over r
answered (round q k) x = k x

unfoldable pub past : {R : Type 0} → Rounds R → List ℕ → Rounds R
past r [] = r
past r (w ∷ l) = past (answered r (reply_in w)) l

-- What the code says of what is left: the end, or the question.
abbrev pub shown : {A : Type 0} → Rounds (Result A Failure) → Result A Stop
shown (over (Ok a)) = Ok a
shown (over (Err f)) = Err (Refused f)
shown (round q k) = Err (Asks q)

-- What is left of an operation that was replied to so far, at a place in its question.
abbrev pub rest_of : {R : Type 0} → Rounds R → List ℕ → Going → Exchange R
rest_of r l g = bind (going g) (λ x. exchange_of (answered (past r l) x))
