-- What an operation can yield, of a sequence and of every play.
use Prim.Native.Nat.{ℕ}
use mathlib.Core.List.{List, [], ◌∷◌}
use mathlib.Core.Path.{◌≡◌, ap, subst, fun_ext}
use Rattle.exchange.specs.Exchange.{Exchange, read, write, bind, yields, play}
use Rattle.exchange.specs.Only.{Only, only_done, only_read, only_write}
use Rattle.exchange.proofs.Steps.{lacks_yields}

pub only_bind : {A B : Type 0} {P : A → Type 0} {Q : B → Type 0} {t : Exchange A} {g : A → Exchange B} → Only P t → ((a : A) → P a → Only Q (g a)) → Only Q (bind t g)
unfolding bind
only_bind (only_done {a = a} h) k = k a h
only_bind (only_read f) k = only_read (λ b. only_bind (f b) k)
only_bind (only_write x) k = only_write (only_bind x k)

-- what follows matters only for what it can yield
pub bind_only : {A B : Type 0} {P : A → Type 0} {t : Exchange A} (g h : A → Exchange B) → Only P t → ((a : A) → P a → g a ≡ h a) → bind t g ≡ bind t h
unfolding bind
bind_only g h (only_done {a = a} x) k = k a x
bind_only g h (only_read {p = p} f) k = ap (read p) (fun_ext (λ b. bind_only g h (f b) k))
bind_only g h (only_write {p = p} {v = v} x) k = ap (write p v) (bind_only g h x k)

pub only_play : {A : Type 0} {P : A → Type 0} {t : Exchange A} → Only P t → (s l : List ℕ) (a : A) → (play t s l).end ≡ yields a → P a
unfolding play
only_play {P = P} (only_done {a = b} h) s l a q =
    let e : b ≡ a = cc in
    subst P e h
only_play (only_read f) [] l a q = absurd (lacks_yields q)
only_play (only_read f) (b ∷ s) l a q = only_play (f b) s l a q
only_play (only_write x) s [] a q = absurd (lacks_yields q)
only_play (only_write x) s (y ∷ []) a q = absurd (lacks_yields q)
only_play (only_write x) s (y ∷ z ∷ l) a q = only_play x s l a q
