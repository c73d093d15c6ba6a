-- An operation with a note of the bytes that it read: without the note it is what it was; its parts; its bounds.
use Prim.Native.Nat.{ℕ, suc, ◌≤◌}
use native.Mathlib.Omega.{arith}
use mathlib.Core.List.{List}
use mathlib.Core.Path.{◌≡◌, refl, ap, ◌∙◌, fun_ext}
use Rattle.exchange.specs.Exchange.{Port, p60, p64, Exchange, done, read, write, bind, End, yields, lacks, told_end, played, play}
use Rattle.exchange.specs.Bounds.{Within, within_done, within_read, within_write}
use Rattle.exchange.specs.Only.{Only, only_done, only_read, only_write}
use Rattle.exchange.specs.Keeping.{Kept, kept, noted, keeping, retold, kept_end}
use Rattle.exchange.proofs.Told.{bind_told}

-- ---- forgetting

module _ {S A : Type 0} (note : S → ℕ → S) where
  pub keeping_forgets : (s : S) (t : Exchange A) → bind (keeping note s t) (λ k. done k.value) ≡ t
  unfolding keeping bind
  keeping_forgets s (done a) = refl
  keeping_forgets s (read p f) = ap (read p) (fun_ext (λ b. keeping_forgets (noted note p s b) (f b)))
  keeping_forgets s (write p v t) = ap (write p v) (keeping_forgets s t)

-- the end of a play without its note
pub end_forgets : {S A : Type 0} (e : End A) (s : S) → told_end (λ (k : Kept S A). k.value) (kept_end e s) ≡ e
end_forgets (yields a) s = refl
end_forgets (lacks x) s = refl

-- ---- one after the other: the second goes on with the note of the first

module _ {S A B : Type 0} (note : S → ℕ → S) (g : A → Exchange B) where
  pub keeping-bind : (s : S) (t : Exchange A) → keeping note s (bind t g) ≡ bind (keeping note s t) (λ k. keeping note k.bytes (g k.value))
  unfolding keeping bind
  keeping-bind s (done a) = refl
  keeping-bind s (read p f) = ap (read p) (fun_ext (λ b. keeping-bind (noted note p s b) (f b)))
  keeping-bind s (write p v t) = ap (write p v) (keeping-bind s t)

pub keeping-done : {S A : Type 0} (note : S → ℕ → S) (s : S) (a : A) → keeping note s (done a) ≡ done (kept a s)
unfolding keeping
keeping-done note s a = refl

-- ---- the note told in another way, as where a list is told by its first bytes

module _ {S R : Type 0} (note : S → ℕ → S) (note₂ : R → ℕ → R) (h : S → R) (same : (s : S) (b : ℕ) → h (note s b) ≡ note₂ (h s) b) where
  noted_retold : (p : Port) (s : S) (b : ℕ) → h (noted note p s b) ≡ noted note₂ p (h s) b
  noted_retold p60 s b = same s b
  noted_retold p64 s b = refl

  pub keeping-retold : {A : Type 0} (s : S) (t : Exchange A) → bind (keeping note s t) (λ k. done (retold h k)) ≡ keeping note₂ (h s) t
  unfolding keeping bind
  keeping-retold s (done a) = refl
  keeping-retold s (read p f) = ap (read p) (fun_ext (λ b. keeping-retold (noted note p s b) (f b) ∙ ap (λ r. keeping note₂ r (f b)) (noted_retold p s b)))
  keeping-retold s (write p v t) = ap (write p v) (keeping-retold s t)

-- ---- what it yields told in another way, with its note as it is

module _ {S A B : Type 0} (note : S → ℕ → S) (f : A → B) where
  keeping_told : (s : S) (t : Exchange A) → bind (keeping note s t) (λ k. done (kept (f k.value) k.bytes)) ≡ keeping note s (bind t (λ a. done (f a)))
  unfolding keeping bind
  keeping_told s (done a) = refl
  keeping_told s (read p g) = ap (read p) (fun_ext (λ b. keeping_told (noted note p s b) (g b)))
  keeping_told s (write p v t) = ap (write p v) (keeping_told s t)

  end_told : (e : End A) (s : S) → told_end (λ (k : Kept S A). kept (f k.value) k.bytes) (kept_end e s) ≡ kept_end (told_end f e) s
  end_told (yields a) s = refl
  end_told (lacks x) s = refl

  pub kept_told : (s s₂ : S) (t : Exchange A) (script log : List ℕ) (e : End A) {u w : ℕ} {l' : List ℕ} → played (kept_end e s₂) u w l' ≡ play (keeping note s t) script log
      → played (kept_end (told_end f e) s₂) u w l' ≡ play (keeping note s (bind t (λ a. done (f a)))) script log
  kept_told s s₂ t script log e r =
      rw (end_told e s₂, keeping_told s t) at (bind_told (keeping note s t) (λ k. kept (f k.value) k.bytes) script log r refl)

-- ---- what r reads leave of P, where a noted byte takes one off its number

module _ {S : Type 0} (note : S → ℕ → S) (P : ℕ → S → Type 0) (less : (n m : ℕ) (s : S) → n ≤ m → P m s → P n s) (step : (n : ℕ) (s : S) (b : ℕ) → P (suc n) s → P n (note s b)) where
  noted_step : (p : Port) (n : ℕ) (s : S) (b : ℕ) → P (suc n) s → P n (noted note p s b)
  noted_step p60 n s b h = step n s b h
  noted_step p64 n s b h = less n (suc n) s (omega arith) h

  pub kept_only : {A : Type 0} {r w : ℕ} {t : Exchange A} (s : S) → P r s → Within r w t → Only (λ k. P 0 k.bytes) (keeping note s t)
  unfolding keeping
  kept_only s x (within_done {r = r} {a = a}) = only_done {a = kept a s} (less 0 r s (omega arith) x)
  kept_only s x (within_read {r = r} {p = p} f) = only_read (λ b. kept_only (noted note p s b) (noted_step p r s b x) (f b))
  kept_only s x (within_write y) = only_write (kept_only s x y)
