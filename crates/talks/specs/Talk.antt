-- An operation as a talk with whoever replies to its
-- questions, and the tree of reads and writes that it makes.
use Rattle.std.specs.Prelude.{Bool, true, false, ℕ, Option, Result, Ok, Err}
use Rattle.exchange.specs.Exchange.{Exchange, done, bind}
use Rattle.exchange.specs.Answer.{Answer, gives, refuses}
use Rattle.exchange.specs.Repeat.{Turn, found, again, repeat}
use Rattle.ps2_answers.specs.Refusals.{Success, success, number_of}
use Rattle.ps2_answers.specs.declared.Failure.{Failure}
use Rattle.questions.specs.declared.Question.{Question}
use Rattle.questions.specs.Asked.{asked}

-- A talk tells what it comes to, or why it failed. It asks one question: a write, a whole wait, or
-- one attempt of a command. It goes on by what another told, whose failure ends both. It replaces
-- another's failure by its own, or forgives it, or says whether there was none. It makes attempts
-- until one is accepted, and fails after the last.
pub data Talk : Type 0 → Type 1 where
  tells : {A : Type 0} → Result A Failure → Talk A
  asks : Question → Talk (Option ℕ)
  next : {A B : Type 0} → Talk A → (A → Talk B) → Talk B
  failing_as : {A : Type 0} → Failure → Talk A → Talk A
  trying : {A : Type 0} → Talk A → Talk (Result A Failure)
  worked : {A : Type 0} → Talk A → Talk Bool
  attempting : ℕ → Failure → Talk Bool → Talk Success

-- ---- the tree of a talk

abbrev pub on_ok : {A B : Type 0} → (A → Exchange (Result B Failure)) → Result A Failure
    → Exchange (Result B Failure)
on_ok g (Ok a) = g a
on_ok g (Err f) = done (Err f)

abbrev pub replaced : {A : Type 0} → Failure → Result A Failure → Result A Failure
replaced f (Ok a) = Ok a
replaced f (Err g) = Err f

abbrev pub accepted_turn : Result Bool Failure → Turn (Result Success Failure)
accepted_turn (Ok true) = found (Ok success)
accepted_turn (Ok false) = again
accepted_turn (Err f) = found (Err f)

abbrev pub is_done : {A : Type 0} → Result A Failure → Bool
is_done (Ok a) = true
is_done (Err f) = false

unfoldable pub tree : {A : Type 0} → Talk A → Exchange (Result A Failure)
tree (tells r) = done r
tree (asks q) = bind (asked q) (λ r. done (Ok r))
tree (next t g) = bind (tree t) (λ r. on_ok (λ a. tree (g a)) r)
tree (failing_as f t) = bind (tree t) (λ r. done (replaced f r))
tree (trying t) = bind (tree t) (λ r. done (Ok r))
tree (worked t) = bind (tree t) (λ r. done (Ok (is_done r)))
tree (attempting n f t) = repeat n (Err f) (bind (tree t) (λ r. done (accepted_turn r)))

-- What is told, as an operation's answer; and the tree with that answer.
abbrev pub answer_of : {A : Type 0} → Result A Failure → Answer A
answer_of (Ok a) = gives a
answer_of (Err f) = refuses (number_of f)

abbrev pub answering : {A : Type 0} → Talk A → Exchange (Answer A)
answering t = bind (tree t) (λ r. done (answer_of r))
