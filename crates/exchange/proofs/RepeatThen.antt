-- A repetition with something after it, turn by turn: as a loop in the middle of an operation goes.
use Prim.Native.Nat.{ℕ, suc, ◌≤◌}
use mathlib.Core.Path.{◌≡◌, refl}
use Rattle.exchange.specs.Exchange.{Exchange, bind}
use Rattle.exchange.specs.Repeat.{Turn, found, again, turned, repeat}
use Rattle.exchange.proofs.Repeat.{repeat_step, repeat_over}
use Rattle.exchange.proofs.Sequence.{bind_assoc, done-bind}

module _ {A B : Type 0} (d : A) (t : Exchange (Turn A)) (g : A → Exchange B) where
  pub repeat_then_step : (n m : ℕ) → n ≡ suc m → bind (repeat n d t) g ≡ bind t (λ r. bind (turned r (repeat m d t)) g)
  repeat_then_step n m h = rw (repeat_step n m d t h) (bind_assoc t (λ r. turned r (repeat m d t)) g)

  pub repeat_then_over : (n : ℕ) → n ≤ 0 → bind (repeat n d t) g ≡ g d
  repeat_then_over n h = rw (repeat_over n d t h) (done-bind g d)

-- a turn that found a leaves the repetition; one that found nothing goes on with it
module _ {A B : Type 0} (g : A → Exchange B) (rest : Exchange A) where
  pub found_then : (a : A) → bind (turned (found a) rest) g ≡ g a
  found_then a = done-bind g a

  pub again_then : bind (turned again rest) g ≡ bind rest g
  again_then = refl
