-- Operations one after another, by what each gives, grouped in another way.
use mathlib.Core.Path.{◌≡◌, refl, ap, ◌∙◌, fun_ext}
use Rattle.exchange.specs.Exchange.{Exchange, bind}
use Rattle.exchange.specs.Answer.{Answer, gives, refuses, on_given, and_then}
use Rattle.exchange.proofs.Sequence.{bind_assoc, done-bind}

module _ {A B C : Type 0} (t : Exchange (Answer A)) (g : A → Exchange (Answer B)) (h : B → Exchange (Answer C)) where
  on_given_assoc : (a : Answer A) → bind (on_given g a) (on_given h) ≡ on_given (λ a. bind (g a) (on_given h)) a
  on_given_assoc (gives a) = refl
  on_given_assoc (refuses n) = done-bind (on_given h) (refuses n)

  pub and_then_assoc : and_then (and_then t g) h ≡ and_then t (λ a. and_then (g a) h)
  unfolding and_then
  and_then_assoc = bind_assoc t (on_given g) (on_given h) ∙ ap (λ k. bind t k) (fun_ext on_given_assoc)
