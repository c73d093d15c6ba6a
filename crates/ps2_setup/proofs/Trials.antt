-- Steps whose failure is forgiven, from what the code's calls answered.
use Prim.Native.Nat.{ℕ, ◌+◌, ◌*◌, ◌<◌, ◌^◌}
use mathlib.Core.Bool.{Bool}
use mathlib.Core.List.{List}
use mathlib.Core.Path.{◌≡◌, refl, sym}
use lib.ListN.{length}
use Rattle.std.specs.Prelude.{Result, Ok, Err}
use Rattle.exchange.specs.Exchange.{Exchange, End, yields, lacks, done, bind, told_end, played, play}
use Rattle.exchange.specs.Answer.{Answer, gives, on_given, and_then}
use Rattle.exchange.specs.Refuses.{given, succeeds}
use Rattle.exchange.specs.Parts.{part, restored}
use Rattle.exchange.specs.Position.{Reached}
use Rattle.exchange.proofs.Calls.{bind_yields}
use Rattle.exchange.proofs.Sequence.{bind_assoc}
use Rattle.exchange.proofs.Told.{bind_told}
use Rattle.exchange.proofs.Position.{reached_same}
use Rattle.ps2_answers.specs.declared.Counted.{Counted}
use Rattle.ps2_answers.specs.declared.Refusal.{Refusal}
use Rattle.ps2_answers.specs.Refusals.{Success}
use Rattle.ps2_answers.specs.Answers.{ended, told, behind}
use Rattle.ps2_answers.proofs.Then.{first_steps, first_stops, then_steps, then_stops}
use Rattle.ps2_setup.specs.Answers.{Forgiven}

-- an operation that gives what another yields, and what follows it: they are the other and what follows it
pub given_then : {A B : Type 0} (t : Exchange A) (g : A → Exchange (Answer B)) → and_then (bind t (λ a. done (gives a))) g ≡ bind t g
unfolding and_then bind
given_then t g = bind_assoc t (λ a. done (gives a)) (on_given g)

-- the step, told as whether it worked
abbrev pub worked : Exchange (Answer Success) → Exchange (Answer Bool)
worked t = bind (succeeds t) (λ b. done (gives b))

pub tried_told : (t : Exchange (Answer Success)) (s l : List ℕ) {l' : List ℕ} (r : Result (Counted Success) (Counted Refusal)) → told r l' ≡ play t s l
    → (x : Result (Counted Bool) (Counted Refusal)) → Forgiven r x → told x l' ≡ play (worked t) s l
unfolding succeeds
tried_told t s l r p x f = rw (f.end, f.used, f.pairs) (bind_told (succeeds t) gives s l (bind_told t given s l p refl) refl)

-- what a step comes to that gives whether it worked
tried_end : (y : End (Answer Success)) (b : Bool) → yields (gives b) ≡ told_end gives (told_end given y) → told_end given y ≡ yields b
tried_end (yields a) b q = cc
tried_end (lacks x) b q = cc

-- such a step and what follows it, whatever that gives
module _ {B : Type 0} (t : Exchange (Answer Success)) (g : Bool → Exchange B) (s l : List ℕ) (r : Result (Counted Success) (Counted Refusal)) {l' : List ℕ} (p : told r l' ≡ play t s l)
    (b : Result (Counted Bool) (Counted Refusal)) (f : Forgiven r b) where
  pub tried_then : (x : Counted Bool) → b ≡ Ok x → {e₂ : End B} {u₂ w₂ : ℕ} {m : List ℕ} → played e₂ u₂ w₂ m ≡ play (g x.value) (part x.used s) (part (2 * x.pairs) l')
      → played e₂ (x.used + u₂) (x.pairs + w₂) (restored (2 * x.pairs) l' m) ≡ play (bind (succeeds t) g) s l
  unfolding succeeds
  tried_then x q r₂ =
      let f₂ : Forgiven r (Ok x) = rw q at f in
      bind_yields (succeeds t) g s l (rw (f₂.used, f₂.pairs) (bind_told t given s l p refl)) (tried_end (ended r) x.value f₂.end) refl r₂

module _ {B : Type 0} (t : Exchange (Answer Success)) (g : Bool → Exchange (Answer B)) where
  -- the first step
  module _ (s l : List ℕ) {l' : List ℕ} (r : Result (Counted Success) (Counted Refusal)) (p : told r l' ≡ play t s l) where
    pub tried_steps : (x : Counted Bool) → Forgiven r (Ok x) → Reached (bind (succeeds t) g) s l (g x.value) x.used x.pairs l'
    tried_steps x f = rw (given_then (succeeds t) g) at (first_steps (worked t) g s l x (tried_told t s l r p (Ok x) f))

    pub tried_stops : (e : Counted Refusal) → Forgiven r (Err e) → told {T = B} (Err e) l' ≡ play (bind (succeeds t) g) s l
    tried_stops e f = rw (given_then (succeeds t) g) at (first_stops (worked t) g s l e (tried_told t s l r p (Err e) f))

  -- a next one
  module _ {whole : Exchange (Answer B)} {s l : List ℕ} (hs : length s < 2 ^ 64) (hl : length l < 2 ^ 64) {V : Type 0} (d : Counted V) {l' : List ℕ}
      (at : Reached whole s l (bind (succeeds t) g) d.used d.pairs l') (r : Result (Counted Success) (Counted Refusal)) {m : List ℕ}
      (p : told r m ≡ play t (part d.used s) (part (2 * d.pairs) l')) (b : Result (Counted Bool) (Counted Refusal)) (f : Forgiven r b) where
    pub tried_then_steps : (x : Counted Bool) → Ok x ≡ behind d b → Reached whole s l (g x.value) x.used x.pairs (restored (2 * d.pairs) l' m)
    tried_then_steps x q = then_steps hs hl d (worked t) g (reached_same at (sym (given_then (succeeds t) g))) b (tried_told t _ _ r p b f) x q

    pub tried_then_stops : (e : Counted Refusal) → Err e ≡ behind d b → told {T = B} (Err e) (restored (2 * d.pairs) l' m) ≡ play whole s l
    tried_then_stops e q = then_stops hs hl d (worked t) g (reached_same at (sym (given_then (succeeds t) g))) b (tried_told t _ _ r p b f) e q
