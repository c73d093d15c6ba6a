-- The tree of a talk of parts is the tree of its parts.
use Prim.Native.Nat.{ℕ, zero, suc}
use mathlib.Core.Bool.{Bool, true, false}
use mathlib.Core.Path.{◌≡◌, refl, sym, ap, ◌∙◌, fun_ext}
use Rattle.std.specs.Prelude.{Option, None, Result, Ok, Err}
use Rattle.exchange.specs.Exchange.{Exchange, done, bind}
use Rattle.exchange.specs.Answer.{Answer, gives, refuses, on_given, and_then, renumbered, refusing_as}
use Rattle.exchange.specs.Repeat.{Turn, found, again, turned, repeat}
use Rattle.exchange.specs.Refuses.{given, succeeds}
use Rattle.exchange.proofs.Sequence.{bind_assoc, bind_identity}
use Rattle.exchange.proofs.Repeat.{repeat_step}
use Rattle.ps2_answers.specs.Refusals.{Success, success, number_of}
use Rattle.ps2_answers.specs.declared.Failure.{Failure}
use Rattle.questions.specs.declared.Sought.{Sought}
use Rattle.questions.specs.Asked.{turn, further_turns}
use Rattle.talks.specs.Talk.{Talk, tells, next, failing_as, trying, attempting, on_ok, replaced, accepted_turn, tree, answer_of, answering, is_done, worked}

-- what is told of a talk
abbrev pub telling : {A C : Type 0} → (Result A Failure → C) → Talk A → Exchange C
telling w t = bind (tree t) (λ r. done (w r))

module _ {A B : Type 0} where
  -- one talk after another
  on_both : (g : A → Talk B) (h : A → Exchange (Answer B)) → ((a : A) → answering (g a) ≡ h a) → (r : Result A Failure)
      → bind (on_ok (λ a. tree (g a)) r) (λ r. done (answer_of r)) ≡ bind (done (answer_of r)) (on_given h)
  unfolding bind
  on_both g h e (Ok a) = e a
  on_both g h e (Err f) = refl

  pub answering_next : (t : Talk A) (x : Exchange (Answer A)) (g : A → Talk B) (h : A → Exchange (Answer B))
      → answering t ≡ x → ((a : A) → answering (g a) ≡ h a) → answering (next t g) ≡ and_then x h
  unfolding tree and_then
  answering_next t x g h p e =
      bind_assoc (tree t) (λ r. on_ok (λ a. tree (g a)) r) (λ r. done (answer_of r))
      ∙ ap (bind (tree t)) (fun_ext (on_both g h e))
      ∙ sym (bind_assoc (tree t) (λ r. done (answer_of r)) (on_given h))
      ∙ ap (λ y. bind y (on_given h)) p

  -- the order of grouping does not matter
  grouped : {C : Type 0} (f : A → Talk B) (g : B → Talk C) (r : Result A Failure)
      → bind (on_ok (λ a. tree (f a)) r) (λ r. on_ok (λ b. tree (g b)) r) ≡ on_ok (λ a. tree (next (f a) g)) r
  unfolding bind tree
  grouped f g (Ok a) = refl
  grouped f g (Err e) = refl

  pub next_assoc : {C : Type 0} (t : Talk A) (f : A → Talk B) (g : B → Talk C) → answering (next (next t f) g) ≡ answering (next t (λ a. next (f a) g))
  unfolding tree
  next_assoc t f g =
      ap (λ y. bind y (λ r. done (answer_of r))) (bind_assoc (tree t) (λ r. on_ok (λ a. tree (f a)) r) (λ r. on_ok (λ b. tree (g b)) r) ∙ ap (bind (tree t)) (fun_ext (grouped f g)))

  -- one that is tried, whatever it comes to, and what is told of it
  tried_both : {C : Type 0} (w : Result B Failure → C) (g : Result A Failure → Talk B) (h : Answer A → Exchange C)
      → ((r : Result A Failure) → telling w (g r) ≡ h (answer_of r)) → (r : Result A Failure)
      → bind (bind (done (Ok r)) (λ r. on_ok (λ a. tree (g a)) r)) (λ r. done (w r)) ≡ bind (done (answer_of r)) h
  unfolding bind
  tried_both w g h e r = e r

  pub telling_tried : {C : Type 0} (w : Result B Failure → C) (t : Talk A) (x : Exchange (Answer A)) (g : Result A Failure → Talk B) (h : Answer A → Exchange C)
      → answering t ≡ x → ((r : Result A Failure) → telling w (g r) ≡ h (answer_of r)) → telling w (next (trying t) g) ≡ bind x h
  unfolding tree
  telling_tried w t x g h p e =
      ap (λ y. bind y (λ r. done (w r))) (bind_assoc (tree t) (λ r. done (Ok r)) (λ r. on_ok (λ a. tree (g a)) r))
      ∙ bind_assoc (tree t) (λ r. bind (done (Ok r)) (λ r. on_ok (λ a. tree (g a)) r)) (λ r. done (w r))
      ∙ ap (bind (tree t)) (fun_ext (tried_both w g h e))
      ∙ sym (bind_assoc (tree t) (λ r. done (answer_of r)) h)
      ∙ ap (λ y. bind y h) p

  -- one that never fails
  sure_both : (g : A → Talk B) (h : A → Exchange (Answer B)) → ((a : A) → answering (g a) ≡ h a) → (a : A)
      → bind (bind (done (Ok a)) (λ r. on_ok (λ a. tree (g a)) r)) (λ r. done (answer_of r)) ≡ h a
  unfolding bind
  sure_both g h e a = e a

  pub answering_sure : (t : Talk A) (x : Exchange A) (g : A → Talk B) (h : A → Exchange (Answer B))
      → tree t ≡ bind x (λ a. done (Ok a)) → ((a : A) → answering (g a) ≡ h a) → answering (next t g) ≡ bind x h
  unfolding tree
  answering_sure t x g h p e =
      ap (λ y. bind (bind y (λ r. on_ok (λ a. tree (g a)) r)) (λ r. done (answer_of r))) p
      ∙ ap (λ y. bind y (λ r. done (answer_of r))) (bind_assoc x (λ a. done (Ok a)) (λ r. on_ok (λ a. tree (g a)) r))
      ∙ bind_assoc x (λ a. bind (done (Ok a)) (λ r. on_ok (λ a. tree (g a)) r)) (λ r. done (answer_of r))
      ∙ ap (bind x) (fun_ext (sure_both g h e))

module _ {A : Type 0} where
  -- a failure that is replaced
  failing_both : (f : Failure) (r : Result A Failure) → bind (done (replaced f r)) (λ r. done (answer_of r)) ≡ bind (done (answer_of r)) (λ a. done (renumbered (number_of f) a))
  unfolding bind
  failing_both f (Ok a) = refl
  failing_both f (Err g) = refl

  pub answering_failing : (f : Failure) (t : Talk A) (x : Exchange (Answer A)) → answering t ≡ x → answering (failing_as f t) ≡ refusing_as (number_of f) x
  unfolding tree refusing_as
  answering_failing f t x p =
      bind_assoc (tree t) (λ r. done (replaced f r)) (λ r. done (answer_of r))
      ∙ ap (bind (tree t)) (fun_ext (failing_both f))
      ∙ sym (bind_assoc (tree t) (λ r. done (answer_of r)) (λ a. done (renumbered (number_of f) a)))
      ∙ ap (λ y. bind y (λ a. done (renumbered (number_of f) a))) p

  -- whether there was no failure
  abbrev said_done : Result A Failure → Exchange (Result Bool Failure)
  said_done r = done (Ok (is_done r))

  worked_both : (r : Result A Failure) → said_done r ≡ bind (bind (done (answer_of r)) (λ a. done (given a))) (λ b. done (Ok b))
  unfolding bind
  worked_both (Ok a) = refl
  worked_both (Err f) = refl

  pub tree_worked : (t : Talk A) (x : Exchange (Answer A)) → answering t ≡ x → tree (worked t) ≡ bind (succeeds x) (λ b. done (Ok b))
  unfolding tree succeeds bind
  tree_worked t x p =
      ap (bind (tree t)) (fun_ext worked_both)
      ∙ sym (bind_assoc (tree t) (λ r. done (answer_of r)) (λ a. bind (done (given a)) (λ b. done (Ok b))))
      ∙ ap (λ y. bind y (λ a. bind (done (given a)) (λ b. done (Ok b)))) p
      ∙ sym (bind_assoc x (λ a. done (given a)) (λ b. done (Ok b)))

  -- what is told
  pub answering_tells : (r : Result A Failure) → answering (tells r) ≡ done (answer_of r)
  unfolding tree bind
  answering_tells r = refl

-- ---- repetitions

module _ {A B : Type 0} (g : A → Exchange B) where
  -- what a turn's end leads to
  abbrev pub through : Turn A → Exchange (Turn B)
  through (found a) = bind (g a) (λ b. done (found b))
  through again = done again

  led : (x rest : Exchange B) → bind (bind x (λ b. done (found b))) (λ r. turned r rest) ≡ x
  unfolding bind
  led x rest = bind_assoc x (λ b. done (found b)) (λ r. turned r rest) ∙ bind_identity x

  each_turn : (rest : Exchange A) (rest' : Exchange B) → bind rest g ≡ rest' → (r : Turn A) → bind (turned r rest) g ≡ bind (through r) (λ y. turned y rest')
  unfolding bind
  each_turn rest rest' e (found a) = sym (led (g a) rest')
  each_turn rest rest' e again = e

  -- a repetition, then what its end leads to, is the repetition of turns that lead there
  pub repeat_through : (n : ℕ) (o : A) (o' : B) (t : Exchange (Turn A)) (t' : Exchange (Turn B)) → g o ≡ done o' → bind t through ≡ t' → bind (repeat n o t) g ≡ repeat n o' t'
  unfolding repeat bind
  repeat_through zero o o' t t' p q = p
  repeat_through (suc n) o o' t t' p q =
      bind_assoc t (λ r. turned r (repeat n o t)) g
      ∙ ap (bind t) (fun_ext (each_turn (repeat n o t) (repeat n o' t') (repeat_through n o o' t t' p q)))
      ∙ sym (bind_assoc t through (λ y. turned y (repeat n o' t')))
      ∙ ap (λ x. bind x (λ y. turned y (repeat n o' t'))) q

-- a wait with so many turns
pub wait_through : {B : Type 0} (s : Sought) (m : ℕ) (g : Option ℕ → Exchange B) (o' : B) (t' : Exchange (Turn B)) → g None ≡ done o' → bind (turn s) (through g) ≡ t'
    → bind (bind (turn s) (further_turns s m)) g ≡ repeat (suc m) o' t'
wait_through s m g o' t' p q = ap (λ x. bind x g) (sym (repeat_step (suc m) m None (turn s) refl)) ∙ repeat_through g (suc m) None o' (turn s) t' p q

-- attempts
abbrev pub turn_answer : Result Bool Failure → Turn (Answer Success)
turn_answer (Ok true) = found (gives success)
turn_answer (Ok false) = again
turn_answer (Err f) = found (refuses (number_of f))

attempted_both : (r : Result Bool Failure) → bind (done (accepted_turn r)) (through (λ r. done (answer_of r))) ≡ done (turn_answer r)
unfolding bind
attempted_both (Ok true) = refl
attempted_both (Ok false) = refl
attempted_both (Err f) = refl

pub answering_attempting : (n : ℕ) (f : Failure) (t : Talk Bool) (x : Exchange (Turn (Answer Success))) → bind (tree t) (λ r. done (turn_answer r)) ≡ x
    → answering (attempting n f t) ≡ repeat n (refuses (number_of f)) x
unfolding tree
answering_attempting n f t x p =
    repeat_through (λ r. done (answer_of r)) n (Err f) (refuses (number_of f)) (bind (tree t) (λ r. done (accepted_turn r))) x refl
    (bind_assoc (tree t) (λ r. done (accepted_turn r)) (through (λ r. done (answer_of r))) ∙ ap (bind (tree t)) (fun_ext attempted_both) ∙ p)
