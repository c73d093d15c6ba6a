-- What is left of an operation behind its replies.
use Prim.Native.Nat.{ℕ}
use mathlib.Core.Bool.{Bool, true, false, cond}
use mathlib.Core.List.{List, [], ◌∷◌, ◌++◌}
use mathlib.Core.Path.{◌≡◌, refl, ap}
use Rattle.std.specs.Prelude.{Option, Result, Ok, Err}
use Rattle.exchange.specs.Exchange.{Exchange, done, read, write, bind}
use Rattle.ps2_answers.specs.declared.Failure.{Failure}
use Rattle.questions.specs.declared.Question.{Question}
use Rattle.questions.specs.declared.Sought.{Sought}
use Rattle.questions.specs.declared.Sought.TheVariants.{InputFree}
use Rattle.questions.specs.declared.Going.{Going}
use Rattle.questions.specs.declared.Going.TheVariants.{Writing, Seeking, Sending, Submitting}
use Rattle.questions.specs.Asked.{going, begun, turn, second, further_turns, sent}
use Rattle.questions.specs.Steps.{after, wants}
use Rattle.talks.specs.declared.Stop.TheVariants.{Asks, Refused}
use Rattle.sessions.specs.Memory.{reply_in}
use Rattle.sessions.specs.Rounds.{Rounds, over, round, exchange_of, answered, past, shown}

module _ {R : Type 0} where
  -- one reply more
  pub past_more : (r : Rounds R) (l : List ℕ) (w : ℕ) → past r (l ++ (w ∷ [])) ≡ answered (past r l) (reply_in w)
  unfolding past
  past_more r [] w = refl
  past_more r (v ∷ l) w = past_more (answered r (reply_in v)) l w

  -- one byte goes into the question, if that is not at its end
  pub after_bind : {A : Type 0} (x : Exchange A) (f : A → Exchange R) (b : ℕ) {y : Exchange A} → ((r : A) → x ≡ done r → ⊥) → after x b ≡ y → after (bind x f) b ≡ bind y f
  unfolding bind
  after_bind (done r) f b h p = absurd (h r refl)
  after_bind (read q g) f b h p = ap (λ y. bind y f) p
  after_bind (write q v t) f b h p = ap (λ y. bind y f) p

  pub wants_bind : {A : Type 0} (x : Exchange A) (f : A → Exchange R) → ((r : A) → x ≡ done r → ⊥) → wants (bind x f) ≡ wants x
  unfolding bind
  wants_bind (done r) f h = absurd (h r refl)
  wants_bind (read q g) f h = refl
  wants_bind (write q v t) f h = refl

  -- what is left is not at its end while a question is asked
  pub still_asks : {A : Type 0} (x : Exchange A) (f : A → Exchange R) → ((r : A) → x ≡ done r → ⊥) → (a : R) → bind x f ≡ done a → ⊥
  unfolding bind
  still_asks (done r) f h a e = h r refl
  still_asks (read q g) f h a e = cc
  still_asks (write q v t) f h a e = cc

  -- the last byte of a question
  pub after_last : {A : Type 0} (x : Exchange A) (f : A → Exchange R) (b : ℕ) (r : A) → ((r : A) → x ≡ done r → ⊥) → after x b ≡ done r → after (bind x f) b ≡ f r
  unfolding bind
  after_last x f b r h p = after_bind x f b h p

module _ {A : Type 0} where
  -- an operation that is at its end, and one that asks
  pub shows_given : (r : Rounds (Result A Failure)) {a : A} → shown r ≡ Ok a → exchange_of r ≡ done (Ok a)
  unfolding exchange_of
  shows_given (over (Ok b)) {a} p = let e : b ≡ a = cc in ap (λ x. done (Ok x)) e
  shows_given (over (Err f)) p = cc
  shows_given (round q k) p = cc

  pub shows_refused : (r : Rounds (Result A Failure)) {f : Failure} → shown r ≡ Err (Refused f) → exchange_of r ≡ done (Err f)
  unfolding exchange_of
  shows_refused (over (Ok b)) p = cc
  shows_refused (over (Err g)) {f} p = let e : g ≡ f = cc in ap (λ x. done (Err x)) e
  shows_refused (round q k) p = cc

  pub shows_asked : (r : Rounds (Result A Failure)) {q : Question} → shown r ≡ Err (Asks q) → exchange_of r ≡ bind (going (begun q)) (λ x. exchange_of (answered r x))
  unfolding exchange_of
  shows_asked (over (Ok b)) p = cc
  shows_asked (over (Err f)) p = cc
  shows_asked (round q₀ k) {q} p = let e : q₀ ≡ q = cc in ap (λ q. bind (going (begun q)) (λ x. exchange_of (k x))) e

-- a place in a question is not its end
not_end_on : (s : Sought) (k : ℕ) (b : Bool) (r : Option ℕ) → cond b (bind (second s) (further_turns s k)) (bind (turn s) (further_turns s k)) ≡ done r → ⊥
unfolding bind
not_end_on s k true r p = cc
not_end_on s k false r p = cc

not_end_sending : (v k : ℕ) (r : Option ℕ) → bind (bind (turn InputFree) (further_turns InputFree k)) (sent v) ≡ done r → ⊥
unfolding bind
not_end_sending v k r p = cc

pub not_end : (g : Going) (r : Option ℕ) → going g ≡ done r → ⊥
not_end (Writing p v) r q = cc
not_end (Seeking w) r q = not_end_on w.sought w.further w.at_data r q
not_end (Sending v k) r q = not_end_sending v k r q
not_end (Submitting v) r q = cc
