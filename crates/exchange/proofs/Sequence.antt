-- One operation after another: the play of `bind`, and that order of grouping does not matter.
use Prim.Native.Nat.{ℕ, suc, ◌+◌}
use native.Mathlib.Nat.{zero-add, suc-add, add_assoc}
use mathlib.Core.List.{List, [], ◌∷◌, ◌++◌, append_assoc}
use mathlib.Core.Path.{◌≡◌, refl, ap, ◌∙◌, fun_ext}
use Rattle.exchange.specs.Exchange.{Port, number, Exchange, done, read, write, bind, End, yields, lacks, Played, after_read, after_write, play}
use Rattle.exchange.specs.Sequence.{onward, follow}
use Rattle.exchange.proofs.Parts.{twice_suc}

-- ---- bind by itself: it goes on at the end of each way through the first operation

module _ {A B : Type 0} (g : A → Exchange B) where
  pub done-bind : (a : A) → bind (done a) g ≡ g a
  unfolding bind
  done-bind a = refl

  pub read-bind : (p : Port) (f : ℕ → Exchange A) → bind (read p f) g ≡ read p (λ b. bind (f b) g)
  unfolding bind
  read-bind p f = refl

  pub write-bind : (p : Port) (v : ℕ) (t : Exchange A) → bind (write p v t) g ≡ write p v (bind t g)
  unfolding bind
  write-bind p v t = refl

pub bind_identity : {A : Type 0} (t : Exchange A) → bind t done ≡ t
unfolding bind
bind_identity (done a) = refl
bind_identity (read p f) = ap (read p) (fun_ext (λ b. bind_identity (f b)))
bind_identity (write p v t) = ap (write p v) (bind_identity t)

pub bind_assoc : {A B C : Type 0} (t : Exchange A) (g : A → Exchange B) (h : B → Exchange C)
    → bind (bind t g) h ≡ bind t (λ a. bind (g a) h)
unfolding bind
bind_assoc (done a) g h = refl
bind_assoc (read p f) g h = ap (read p) (fun_ext (λ b. bind_assoc (f b) g h))
bind_assoc (write p v t) g h = ap (write p v) (bind_assoc t g h)

-- ---- the play of bind

pub onward-onward : {A : Type 0} (u w : ℕ) (front : List ℕ) (u₂ w₂ : ℕ) (front₂ : List ℕ) (o : Played A)
    → onward u w front (onward u₂ w₂ front₂ o) ≡ onward (u + u₂) (w + w₂) (front ++ front₂) o
onward-onward u w front u₂ w₂ front₂ o = rw (append_assoc, add_assoc u u₂, add_assoc w w₂)

module _ {A B : Type 0} (g : A → Exchange B) where
  follow_read : (b : ℕ) (s : List ℕ) (e : End A) (u w : ℕ) (l : List ℕ) → after_read (follow e u w l s g) ≡ follow e (suc u) w l (b ∷ s) g
  unfolding follow
  follow_read b s (yields a) u w l = rw suc-add
  follow_read b s (lacks x) u w l = refl

  follow_write : (p : Port) (v : ℕ) (s : List ℕ) (e : End A) (u w : ℕ) (l : List ℕ) → after_write p v (follow e u w l s g) ≡ follow e u (suc w) (number p ∷ v ∷ l) s g
  unfolding follow
  follow_write p v s (yields a) u w l = rw (twice_suc w, suc-add)
  follow_write p v s (lacks x) u w l = refl

  pub play-bind : (t : Exchange A) (s l : List ℕ)
      → play (bind t g) s l ≡ follow (play t s l).end (play t s l).used (play t s l).pairs (play t s l).log s g
  unfolding play bind follow
  play-bind (done a) s l = rw (zero-add (play (g a) s l).used, zero-add (play (g a) s l).pairs)
  play-bind (read p f) [] l = refl
  play-bind (read p f) (b ∷ s) l =
      let o = play (f b) s l in
      ap (λ (r : Played B). after_read r) (play-bind (f b) s l) ∙ follow_read b s o.end o.used o.pairs o.log
  play-bind (write p v t) s [] = refl
  play-bind (write p v t) s (x ∷ []) = refl
  play-bind (write p v t) s (x ∷ y ∷ l) =
      let o = play t s l in
      ap (λ (r : Played B). after_write p v r) (play-bind t s l) ∙ follow_write p v s o.end o.used o.pairs o.log
