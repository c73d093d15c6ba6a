-- An operation whose answer is told in another way, with nothing read or written after it.
use Prim.Native.Nat.{ℕ}
use mathlib.Core.List.{List}
use mathlib.Core.Path.{◌≡◌, refl}
use Rattle.exchange.specs.Exchange.{Exchange, done, bind, End, yields, lacks, told_end, played, play}
use Rattle.exchange.proofs.Calls.{bind_done, bind_lacks}

module _ {A B : Type 0} (t : Exchange A) (f : A → B) (s l : List ℕ) {u w : ℕ} {l' : List ℕ} where
  told : (e : End A) → played e u w l' ≡ play t s l → played (told_end f e) u w l' ≡ play (bind t (λ a. done (f a))) s l
  told (yields a) r = bind_done t (λ a. done (f a)) s l r refl refl
  told (lacks x) r = bind_lacks t (λ a. done (f a)) s l r refl

  pub bind_told : {e e₂ : End A} → played e u w l' ≡ play t s l → e ≡ e₂ → played (told_end f e₂) u w l' ≡ play (bind t (λ a. done (f a))) s l
  bind_told {e₂ = e₂} r q = told e₂ (rw q at r)
