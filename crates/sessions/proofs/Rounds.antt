-- The exchange that a talk's rounds make is its tree.
use Prim.Native.Nat.{ℕ, zero, suc}
use mathlib.Core.Bool.{Bool, true, false}
use mathlib.Core.Path.{◌≡◌, refl, sym, ap, ◌∙◌, fun_ext}
use Rattle.std.specs.Prelude.{Result, Ok, Err}
use Rattle.exchange.specs.Exchange.{Exchange, done, bind}
use Rattle.exchange.specs.Repeat.{turned, repeat}
use Rattle.exchange.proofs.Sequence.{bind_assoc}
use Rattle.ps2_answers.specs.Refusals.{Success}
use Rattle.ps2_answers.specs.declared.Failure.{Failure}
use Rattle.questions.specs.Asked.{asked}
use Rattle.talks.specs.Talk.{Talk, tells, asks, next, failing_as, trying, worked, attempting, on_ok, replaced, accepted_turn, is_done, tree}
use Rattle.sessions.specs.Rounds.{Rounds, over, round, joined, on_done, unless_accepted, attempt_rounds, rounds, exchange_of}

pub exchange_joined : {R S : Type 0} (r : Rounds R) (g : R → Rounds S) → exchange_of (joined r g) ≡ bind (exchange_of r) (λ x. exchange_of (g x))
unfolding exchange_of joined bind
exchange_joined (over r) g = refl
exchange_joined (round q k) g =
    ap (bind (asked q)) (fun_ext (λ r. exchange_joined (k r) g)) ∙ sym (bind_assoc (asked q) (λ r. exchange_of (k r)) (λ x. exchange_of (g x)))

on_both : {A B : Type 0} (g : A → Talk B) → ((a : A) → exchange_of (rounds (g a)) ≡ tree (g a)) → (r : Result A Failure)
    → exchange_of (on_done (λ a. rounds (g a)) r) ≡ on_ok (λ a. tree (g a)) r
unfolding exchange_of
on_both g e (Ok a) = e a
on_both g e (Err f) = refl

accepted_both : (rest : Rounds (Result Success Failure)) (x : Exchange (Result Success Failure)) → exchange_of rest ≡ x → (r : Result Bool Failure)
    → exchange_of (unless_accepted rest r) ≡ bind (done (accepted_turn r)) (λ t. turned t x)
unfolding exchange_of bind
accepted_both rest x e (Ok true) = refl
accepted_both rest x e (Ok false) = e
accepted_both rest x e (Err f) = refl

attempts_both : (n : ℕ) (f : Failure) (r : Rounds (Result Bool Failure)) (x : Exchange (Result Bool Failure)) → exchange_of r ≡ x
    → exchange_of (attempt_rounds n f r) ≡ repeat n (Err f) (bind x (λ r. done (accepted_turn r)))
unfolding attempt_rounds repeat exchange_of
attempts_both zero f r x p = refl
attempts_both (suc n) f r x p =
    exchange_joined r (unless_accepted (attempt_rounds n f r))
    ∙ ap (λ y. bind y (λ z. exchange_of (unless_accepted (attempt_rounds n f r) z))) p
    ∙ ap (bind x) (fun_ext (accepted_both (attempt_rounds n f r) (repeat n (Err f) (bind x (λ r. done (accepted_turn r)))) (attempts_both n f r x p)))
    ∙ sym (bind_assoc x (λ r. done (accepted_turn r)) (λ t. turned t (repeat n (Err f) (bind x (λ r. done (accepted_turn r))))))

pub exchange_rounds : {A : Type 0} (t : Talk A) → exchange_of (rounds t) ≡ tree t
unfolding exchange_of rounds tree
exchange_rounds (tells r) = refl
exchange_rounds (asks q) = refl
exchange_rounds (next t g) =
    exchange_joined (rounds t) (λ r. on_done (λ a. rounds (g a)) r)
    ∙ ap (λ y. bind y (λ r. exchange_of (on_done (λ a. rounds (g a)) r))) (exchange_rounds t)
    ∙ ap (bind (tree t)) (fun_ext (on_both g (λ a. exchange_rounds (g a))))
exchange_rounds (failing_as f t) = exchange_joined (rounds t) (λ r. over (replaced f r)) ∙ ap (λ y. bind y (λ r. done (replaced f r))) (exchange_rounds t)
exchange_rounds (trying t) = exchange_joined (rounds t) (λ r. over (Ok r)) ∙ ap (λ y. bind y (λ r. done (Ok r))) (exchange_rounds t)
exchange_rounds (worked t) = exchange_joined (rounds t) (λ r. over (Ok (is_done r))) ∙ ap (λ y. bind y (λ r. done (Ok (is_done r)))) (exchange_rounds t)
exchange_rounds (attempting n f t) = attempts_both n f (rounds t) (tree t) (exchange_rounds t)
