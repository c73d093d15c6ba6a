-- What an operation can write: of a sequence, of a repetition, and of the accesses it makes.
use Prim.Native.Nat.{ℕ, zero, suc}
use mathlib.Core.List.{List, []}
use mathlib.Core.Path.{◌≡◌, refl}
use Rattle.exchange.specs.Exchange.{Port, p60, p64, Exchange, bind}
use Rattle.exchange.specs.Repeat.{Turn, found, again, turned, repeat}
use Rattle.exchange.specs.Trace.{Access, Makes, nothing, by_read, by_write}
use Rattle.exchange.specs.Sends.{Sends, sends_done, sends_read, sends_write, to_controller}

module _ {W : Port → ℕ → Type 0} where
  pub sends_bind : {A B : Type 0} {t : Exchange A} {g : A → Exchange B} → Sends W t → ((a : A) → Sends W (g a)) → Sends W (bind t g)
  unfolding bind
  sends_bind (sends_done {a = a}) k = k a
  sends_bind (sends_read f) k = sends_read (λ b. sends_bind (f b) k)
  sends_bind (sends_write h x) k = sends_write h (sends_bind x k)

  module _ {A : Type 0} {t : Exchange (Turn A)} (h : Sends W t) (d : A) where
    sends_turned : (n : ℕ) (x : Turn A) → Sends W (repeat n d t) → Sends W (turned x (repeat n d t))
    sends_turned n (found a) k = sends_done
    sends_turned n again k = k

    pub sends_repeat : (n : ℕ) → Sends W (repeat n d t)
    unfolding repeat
    sends_repeat zero = sends_done
    sends_repeat (suc n) = sends_bind h (λ x. sends_turned n x (sends_repeat n))

-- an operation that writes to port 60 only sends no controller command
pub sends_data : {A : Type 0} {W : ℕ → Type 0} {t rest : Exchange A} {made : List Access} → Sends (λ p v. (p ≡ p60) × W v) t → Makes t made rest → to_controller made ≡ []
sends_data h nothing = refl
sends_data (sends_read f) (by_read {b = b} m) = sends_data (f b) m
sends_data (sends_write {p = p60} h x) (by_write m) = sends_data x m
sends_data (sends_write {p = p64} h x) (by_write m) = cc
