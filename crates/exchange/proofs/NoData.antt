-- What reads no data notes nothing, so the note goes past it.
use Prim.Native.Nat.{ℕ, zero, suc}
use mathlib.Core.Path.{◌≡◌, refl, ap, fun_ext}
use Rattle.exchange.specs.Exchange.{p64, Exchange, read, write, bind}
use Rattle.exchange.specs.Repeat.{Turn, found, again, turned, repeat}
use Rattle.exchange.specs.Keeping.{keeping, NoData, no_data_done, no_data_read, no_data_write}

pub keeping_after : {S A B : Type 0} (note : S → ℕ → S) (s : S) (g : A → Exchange B) {t : Exchange A} → NoData t
    → keeping note s (bind t g) ≡ bind t (λ a. keeping note s (g a))
unfolding keeping bind
keeping_after note s g no_data_done = refl
keeping_after note s g (no_data_read f) = ap (read p64) (fun_ext (λ b. keeping_after note s g (f b)))
keeping_after note s g (no_data_write {p = p} {v = v} x) = ap (write p v) (keeping_after note s g x)

no_data_bind : {A B : Type 0} {t : Exchange A} {g : A → Exchange B} → NoData t → ((a : A) → NoData (g a)) → NoData (bind t g)
unfolding bind
no_data_bind (no_data_done {a = a}) k = k a
no_data_bind (no_data_read f) k = no_data_read (λ b. no_data_bind (f b) k)
no_data_bind (no_data_write x) k = no_data_write (no_data_bind x k)

module _ {A : Type 0} {t : Exchange (Turn A)} (h : NoData t) (d : A) where
  no_data_turned : {rest : Exchange A} → NoData rest → (x : Turn A) → NoData (turned x rest)
  no_data_turned k (found a) = no_data_done
  no_data_turned k again = k

  pub no_data_repeat : (n : ℕ) → NoData (repeat n d t)
  unfolding repeat
  no_data_repeat zero = no_data_done
  no_data_repeat (suc n) = no_data_bind h (no_data_turned (no_data_repeat n))
