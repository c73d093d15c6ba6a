-- What a talk comes to with a memory is what is left of its questions behind the replies.
use Prim.Native.Nat.{ℕ, zero, suc, ◌+◌, ◌<◌, ◌≤◌}
use mathlib.Core.Bool.{Bool, true, false}
use mathlib.Core.List.{List, [], ◌∷◌}
use mathlib.Core.Path.{◌≡◌, refl, sym, ap, ◌∙◌}
use Rattle.std.specs.Prelude.{Option, Some, None, Result, Ok, Err, drop, length, get_or}
use Rattle.std.proofs.lemmas.Bool.{lt-ltb, le-ltb, ltb-true, ltb-false}
use Rattle.std.proofs.lemmas.List.{drop_more, drop_all}
use Rattle.ps2_answers.specs.Refusals.{Success}
use Rattle.ps2_answers.specs.declared.Failure.{Failure}
use Rattle.questions.specs.declared.Question.{Question}
use Rattle.talks.specs.declared.Stop.{Stop}
use Rattle.talks.specs.declared.Stop.TheVariants.{Asks, Refused}
use Rattle.talks.specs.Talk.{Talk, tells, asks, next, failing_as, trying, worked, attempting, replaced, is_done}
use Rattle.talks.specs.Heard.{Replies, HeardBy, by, said, replied, going_by, fails_as, forgives, works, accepting, attempts_heard, heard}
use Rattle.sessions.specs.declared.Memory.{Memory}
use Rattle.sessions.specs.Memory.{reply_in, remembers, memory}
use Rattle.sessions.specs.Rounds.{Rounds, over, round, joined, on_done, unless_accepted, attempt_rounds, rounds, past, shown}

-- what questions come to with whoever replies: their end, or a question without a reply
pub data Came (R : Type 0) : Type 0 where
  came : R → Came R
  waits : Question → Came R

pub record RanBy (S R : Type 0) : Type 0 where
  pub what : Came R
  pub now : S

abbrev pub ran_by : {S R : Type 0} → Came R → S → RanBy S R
ran_by w s = record { what = w; now = s }

abbrev pub on_reply : {S R : Type 0} → Question → S → (Option ℕ → RanBy S R) → Option (Option ℕ) → RanBy S R
on_reply q s f None = ran_by (waits q) s
on_reply q s f (Some r) = f r

unfoldable pub ran : {S R : Type 0} → Replies S → Rounds R → S → RanBy S R
ran d (over r) s = ran_by (came r) s
ran d (round q k) s = on_reply q (d.past s q) (λ r. ran d (k r) (d.past s q)) (d.reply s q)

abbrev pub after_came : {S R T : Type 0} → (R → S → RanBy S T) → Came R → S → RanBy S T
after_came g (came r) s = g r s
after_came g (waits q) s = ran_by (waits q) s

abbrev pub heard_of : {A : Type 0} → Came (Result A Failure) → Result A Stop
heard_of (came (Ok a)) = Ok a
heard_of (came (Err f)) = Err (Refused f)
heard_of (waits q) = Err (Asks q)

abbrev pub as_heard : {S A : Type 0} → RanBy S (Result A Failure) → HeardBy S A
as_heard x = by (heard_of x.what) x.now

module _ {S : Type 0} (d : Replies S) where
  joined_reply : {R T : Type 0} (k : Option ℕ → Rounds R) (g : R → Rounds T) (q : Question) (s : S) (o : Option (Option ℕ))
      → ((r : Option ℕ) → ran d (joined (k r) g) s ≡ after_came (λ x s. ran d (g x) s) (ran d (k r) s).what (ran d (k r) s).now)
      → on_reply q s (λ r. ran d (joined (k r) g) s) o ≡ after_came (λ x s. ran d (g x) s) (on_reply q s (λ r. ran d (k r) s) o).what (on_reply q s (λ r. ran d (k r) s) o).now
  joined_reply k g q s None e = refl
  joined_reply k g q s (Some r) e = e r

  ran_joined : {R T : Type 0} (r : Rounds R) (g : R → Rounds T) (s : S) → ran d (joined r g) s ≡ after_came (λ x s. ran d (g x) s) (ran d r s).what (ran d r s).now
  unfolding ran joined
  ran_joined (over r) g s = refl
  ran_joined (round q k) g s = joined_reply k g q (d.past s q) (d.reply s q) (λ r. ran_joined (k r) g (d.past s q))

  tells_ran : {A : Type 0} (r : Result A Failure) (s : S) → by (said r) s ≡ as_heard (ran_by (came r) s)
  tells_ran (Ok a) s = refl
  tells_ran (Err f) s = refl

  asks_ran : (q : Question) (s : S) (o : Option (Option ℕ)) → by (replied q o) s ≡ as_heard (on_reply q s (λ r. ran_by (came (Ok r)) s) o)
  asks_ran q s None = refl
  asks_ran q s (Some r) = refl

  next_ran : {A B : Type 0} (g : A → Talk B) (w : Came (Result A Failure)) (s : S) → ((a : A) (s : S) → heard d (g a) s ≡ as_heard (ran d (rounds (g a)) s))
      → going_by (λ a s. heard d (g a) s) (heard_of w) s ≡ as_heard (after_came (λ r s. ran d (on_done (λ a. rounds (g a)) r) s) w s)
  unfolding ran
  next_ran g (came (Ok a)) s e = e a s
  next_ran g (came (Err f)) s e = refl
  next_ran g (waits q) s e = refl

  failing_ran : {A : Type 0} (f : Failure) (w : Came (Result A Failure)) (s : S) → by (fails_as f (heard_of w)) s ≡ as_heard (after_came (λ r s. ran d (over (replaced f r)) s) w s)
  unfolding ran
  failing_ran f (came (Ok a)) s = refl
  failing_ran f (came (Err g)) s = refl
  failing_ran f (waits q) s = refl

  abbrev kept_whole : {A : Type 0} → Result A Failure → Rounds (Result (Result A Failure) Failure)
  kept_whole r = over (Ok r)

  trying_ran : {A : Type 0} (w : Came (Result A Failure)) (s : S) → by (forgives (heard_of w)) s ≡ as_heard (after_came (λ r s. ran d (kept_whole r) s) w s)
  unfolding ran
  trying_ran (came (Ok a)) s = refl
  trying_ran (came (Err f)) s = refl
  trying_ran (waits q) s = refl

  abbrev said_done : {A : Type 0} → Result A Failure → Rounds (Result Bool Failure)
  said_done r = over (Ok (is_done r))

  worked_ran : {A : Type 0} (w : Came (Result A Failure)) (s : S) → by (works (heard_of w)) s ≡ as_heard (after_came (λ r s. ran d (said_done r) s) w s)
  unfolding ran
  worked_ran (came (Ok a)) s = refl
  worked_ran (came (Err f)) s = refl
  worked_ran (waits q) s = refl

  accepting_ran : (rest : S → HeardBy S Success) (r : Rounds (Result Success Failure)) → ((s : S) → rest s ≡ as_heard (ran d r s)) → (w : Came (Result Bool Failure)) (s : S)
      → accepting rest (heard_of w) s ≡ as_heard (after_came (λ x s. ran d (unless_accepted r x) s) w s)
  unfolding ran
  accepting_ran rest r e (came (Ok true)) s = refl
  accepting_ran rest r e (came (Ok false)) s = e s
  accepting_ran rest r e (came (Err f)) s = refl
  accepting_ran rest r e (waits q) s = refl

  attempts_ran : (n : ℕ) (f : Failure) (one : S → HeardBy S Bool) (r : Rounds (Result Bool Failure)) → ((s : S) → one s ≡ as_heard (ran d r s)) → (s : S)
      → attempts_heard n f one s ≡ as_heard (ran d (attempt_rounds n f r) s)
  unfolding attempts_heard attempt_rounds ran
  attempts_ran zero f one r e s = refl
  attempts_ran (suc n) f one r e s =
      ap (λ h. accepting (attempts_heard n f one) h.what h.now) (e s)
      ∙ accepting_ran (attempts_heard n f one) (attempt_rounds n f r) (attempts_ran n f one r e) (ran d r s).what (ran d r s).now
      ∙ ap as_heard (sym (ran_joined r (unless_accepted (attempt_rounds n f r)) s))

  pub heard_ran : {A : Type 0} (t : Talk A) (s : S) → heard d t s ≡ as_heard (ran d (rounds t) s)
  unfolding heard rounds ran
  heard_ran (tells r) s = tells_ran r s
  heard_ran (asks q) s = asks_ran q (d.past s q) (d.reply s q)
  heard_ran (next t g) s =
      ap (λ h. going_by (λ a s. heard d (g a) s) h.what h.now) (heard_ran t s)
      ∙ next_ran g (ran d (rounds t) s).what (ran d (rounds t) s).now (λ a s. heard_ran (g a) s)
      ∙ ap as_heard (sym (ran_joined (rounds t) (λ r. on_done (λ a. rounds (g a)) r) s))
  heard_ran (failing_as f t) s =
      ap (λ h. by (fails_as f h.what) h.now) (heard_ran t s)
      ∙ failing_ran f (ran d (rounds t) s).what (ran d (rounds t) s).now
      ∙ ap as_heard (sym (ran_joined (rounds t) (λ r. over (replaced f r)) s))
  heard_ran (trying t) s =
      ap (λ h. by (forgives h.what) h.now) (heard_ran t s)
      ∙ trying_ran (ran d (rounds t) s).what (ran d (rounds t) s).now
      ∙ ap as_heard (sym (ran_joined (rounds t) kept_whole s))
  heard_ran (worked t) s =
      ap (λ h. by (works h.what) h.now) (heard_ran t s)
      ∙ worked_ran (ran d (rounds t) s).what (ran d (rounds t) s).now
      ∙ ap as_heard (sym (ran_joined (rounds t) said_done s))
  heard_ran (attempting n f t) s = attempts_ran n f (heard d t) (rounds t) (λ s. heard_ran t s) s

-- ---- a memory

abbrev pub came_of : {R : Type 0} → Rounds R → Came R
came_of (over r) = came r
came_of (round q k) = waits q

pub past_over : {R : Type 0} (r : R) (l : List ℕ) → past (over r) l ≡ over r
unfolding past
past_over r [] = refl
past_over r (w ∷ l) = past_over r l

memory_round : {R : Type 0} (q : Question) (k : Option ℕ → Rounds R) (s : Memory)
    → ((r : Option ℕ) (s' : Memory) → (ran memory (k r) s').what ≡ came_of (past (k r) (drop s'.at s'.replies.now)))
    → (b : Bool) → remembers s ≡ b → (ran memory (round q k) s).what ≡ came_of (past (round q k) (drop s.at s.replies.now))
unfolding ran past
memory_round q k s f true e = rw (e, drop_more s.replies.now s.at 0 (ltb-true s.at (length s.replies.now) e)) (f (reply_in (get_or s.replies.now s.at 0)) (record s { at = s.at + 1 }))
memory_round q k s f false e = rw (e, drop_all s.at s.replies.now (ltb-false s.at (length s.replies.now) e)) refl

ran_memory : {R : Type 0} (r : Rounds R) (s : Memory) → (ran memory r s).what ≡ came_of (past r (drop s.at s.replies.now))
unfolding ran
ran_memory (over r) s = ap came_of (sym (past_over r (drop s.at s.replies.now)))
ran_memory (round q k) s = memory_round q k s (λ r s'. ran_memory (k r) s') (remembers s) refl

shown_came : {A : Type 0} (r : Rounds (Result A Failure)) → heard_of (came_of r) ≡ shown r
shown_came (over (Ok a)) = refl
shown_came (over (Err f)) = refl
shown_came (round q k) = refl

pub heard_memory : {A : Type 0} (t : Talk A) (s : Memory) → (heard memory t s).what ≡ shown (past (rounds t) (drop s.at s.replies.now))
heard_memory t s =
    ap (λ h. h.what) (heard_ran memory t s) ∙ ap heard_of (ran_memory (rounds t) s) ∙ shown_came (past (rounds t) (drop s.at s.replies.now))

-- one question
pub known : (s : Memory) (q : Question) → s.at < length s.replies.now
    → by (Ok (reply_in (get_or s.replies.now s.at 0))) (record s { at = s.at + 1 }) ≡ heard memory (asks q) s
unfolding heard
known s q h = rw (lt-ltb s.at (length s.replies.now) h) refl

pub unknown : (s : Memory) (q : Question) → length s.replies.now ≤ s.at → by (Err (Asks q)) s ≡ heard memory (asks q) s
unfolding heard
unknown s q h = rw (le-ltb s.at (length s.replies.now) h) refl
