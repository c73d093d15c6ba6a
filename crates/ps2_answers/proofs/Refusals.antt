-- A refusal is passed up unchanged: that of the first of two operations ends both.
use Prim.Native.Nat.{ℕ}
use mathlib.Core.List.{List}
use mathlib.Core.Path.{◌≡◌, refl}
use Rattle.exchange.specs.Exchange.{Exchange, done, bind, End, played, play, Reads, Writes}
use Rattle.exchange.specs.Answer.{Answer, gives, refuses, answered, on_given}
use Rattle.exchange.specs.Repeat.{Turn, found, found_end}
use Rattle.exchange.proofs.Calls.{bind_done, bind_lacks, reads_lacks, reads_done}
use Rattle.ps2_answers.specs.Refusals.{refusal_number, refused}
use Rattle.ps2_answers.specs.declared.Refusal.{Refusal}
use Rattle.ps2_answers.specs.declared.Refusal.TheVariants.{Lacking, Failed}

-- the number of a refusal is the answer of the play's end that it says
pub refused_number : {A : Type 0} (x : Refusal) → answered {A = A} (refused x) ≡ refuses (refusal_number x)
unfolding answered
refused_number (Lacking l) = refl
refused_number (Failed f) = refl

module _ {A B : Type 0} (t : Exchange (Answer A)) (g : A → Exchange (Answer B)) where
  pub bind_refused : (s l : List ℕ) {e : End (Answer A)} {u w : ℕ} {l' : List ℕ} → played e u w l' ≡ play t s l
      → (x : Refusal) → e ≡ refused x → played (refused x) u w l' ≡ play (bind t (on_given g)) s l
  bind_refused s l r (Lacking x) q = bind_lacks t (on_given g) s l r q
  bind_refused s l r (Failed f) q = bind_done t (on_given g) s l r q refl

  pub reads_refused : (s : List ℕ) {e : End (Answer A)} {u w : ℕ} → Reads t s e u w → (x : Refusal) → e ≡ refused x → Reads (bind t (on_given g)) s (refused x) u 0
  reads_refused s r x q = record { with_any = λ l. bind_refused s l (r.with_any l) x q; no_pairs = refl }

  pub writes_refused : (l : List ℕ) {e : End (Answer A)} {u w : ℕ} {l' : List ℕ} → Writes t l e u w l' → (x : Refusal) → e ≡ refused x
      → Writes (bind t (on_given g)) l (refused x) 0 w l'
  writes_refused l r x q = record { with_any = λ s. bind_refused s l (r.with_any s) x q; no_bytes = refl }

-- the same inside one turn of a repetition: the refusal is the answer that the turn finds
abbrev pub on_answer : {A B : Type 0} → (A → Exchange (Turn (Answer B))) → Answer A → Exchange (Turn (Answer B))
on_answer g (gives a) = g a
on_answer g (refuses n) = done (found (refuses n))

pub reads_refused_turn : {A B : Type 0} (t : Exchange (Answer A)) (g : A → Exchange (Turn (Answer B))) (s : List ℕ) {e : End (Answer A)} {u w : ℕ} → Reads t s e u w
    → (x : Refusal) → e ≡ refused x → Reads (bind t (on_answer g)) s (found_end (refused x)) u 0
reads_refused_turn t g s r (Lacking x) q = reads_lacks t (on_answer g) s r q
reads_refused_turn t g s r (Failed f) q = reads_done t (on_answer g) s r q refl
