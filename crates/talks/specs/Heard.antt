-- What a talk comes to with whoever replies.
use Rattle.std.specs.Prelude.{Bool, true, false, ℕ, zero, suc, Option, Some, None, Result, Ok, Err}
use Rattle.ps2_answers.specs.Refusals.{Success, success}
use Rattle.ps2_answers.specs.declared.Failure.{Failure}
use Rattle.questions.specs.declared.Question.{Question}
use Rattle.talks.specs.declared.Stop.{Stop}
use Rattle.talks.specs.declared.Stop.TheVariants.{Asks, Refused}
use Rattle.talks.specs.Talk.{Talk, tells, asks, next, failing_as, trying, worked, attempting}

-- Whoever replies, as a state: the reply to a question, if
-- there is one yet, and the state after it.
pub record Replies (S : Type 0) : Type 0 where
  pub reply : S → Question → Option (Option ℕ)
  pub past : S → Question → S

-- What a talk comes to, which stops at a question without a reply; and the state then.
pub record HeardBy (S A : Type 0) : Type 0 where
  pub what : Result A Stop
  pub now : S

abbrev pub by : {S A : Type 0} → Result A Stop → S → HeardBy S A
by w s = record { what = w; now = s }

abbrev pub said : {A : Type 0} → Result A Failure → Result A Stop
said (Ok a) = Ok a
said (Err f) = Err (Refused f)

abbrev pub replied : Question → Option (Option ℕ) → Result (Option ℕ) Stop
replied q None = Err (Asks q)
replied q (Some r) = Ok r

abbrev pub going_by : {S A B : Type 0} → (A → S → HeardBy S B) → Result A Stop → S → HeardBy S B
going_by f (Ok a) s = f a s
going_by f (Err e) s = by (Err e) s

-- A failure that is replaced, and one that is forgiven. A question without a reply is neither.
abbrev pub fails_as : {A : Type 0} → Failure → Result A Stop → Result A Stop
fails_as f (Ok a) = Ok a
fails_as f (Err (Asks q)) = Err (Asks q)
fails_as f (Err (Refused g)) = Err (Refused f)

abbrev pub forgives : {A : Type 0} → Result A Stop → Result (Result A Failure) Stop
forgives (Ok a) = Ok (Ok a)
forgives (Err (Asks q)) = Err (Asks q)
forgives (Err (Refused f)) = Ok (Err f)

-- Whether there was no failure.
abbrev pub works : {A : Type 0} → Result A Stop → Result Bool Stop
works (Ok a) = Ok true
works (Err (Asks q)) = Err (Asks q)
works (Err (Refused f)) = Ok false

abbrev pub accepting : {S : Type 0} → (S → HeardBy S Success) → Result Bool Stop → S
    → HeardBy S Success
accepting rest (Ok true) s = by (Ok success) s
accepting rest (Ok false) s = rest s
accepting rest (Err e) s = by (Err e) s

unfoldable pub attempts_heard : {S : Type 0} → ℕ → Failure → (S → HeardBy S Bool) → S
    → HeardBy S Success
attempts_heard zero f one s = by (Err (Refused f)) s
attempts_heard (suc n) f one s = accepting (attempts_heard n f one) (one s).what (one s).now

unfoldable pub heard : {S A : Type 0} → Replies S → Talk A → S → HeardBy S A
heard d (tells r) s = by (said r) s
heard d (asks q) s = by (replied q (d.reply s q)) (d.past s q)
heard d (next t g) s = going_by (λ a s. heard d (g a) s) (heard d t s).what (heard d t s).now
heard d (failing_as f t) s = by (fails_as f (heard d t s).what) (heard d t s).now
heard d (trying t) s = by (forgives (heard d t s).what) (heard d t s).now
heard d (worked t) s = by (works (heard d t s).what) (heard d t s).now
heard d (attempting n f t) s = attempts_heard n f (heard d t) s
