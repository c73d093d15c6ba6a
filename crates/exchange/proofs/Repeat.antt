-- A bounded repetition, turn by turn.
use Prim.Native.Nat.{ℕ, zero, suc, ◌+◌, ◌*◌, ◌-◌, ◌≤◌, ◌<◌}
use native.Mathlib.Omega.{arith}
use mathlib.Core.List.{List}
use mathlib.Core.Path.{◌≡◌, refl}
use Rattle.exchange.specs.Exchange.{Exchange, done, bind, Lack, End, yields, lacks, played, play, Reads}
use Rattle.exchange.specs.Parts.{part, restored}
use Rattle.exchange.specs.Position.{Reached}
use Rattle.exchange.specs.Repeat.{Turn, found, again, turned, found_end, repeat}
use Rattle.exchange.proofs.Position.{reached_done}
use Rattle.exchange.proofs.Calls.{bind_done, bind_lacks, reached_call, reached_lacks, reached_call_reads, reached_lacks_reads}

-- the next of the turns that are left, and none left; n may count down, or be what a count up leaves
pub repeat_step : {A : Type 0} (n m : ℕ) (d : A) (t : Exchange (Turn A)) → n ≡ suc m → repeat n d t ≡ bind t (λ r. turned r (repeat m d t))
unfolding repeat
repeat_step zero m d t h = absurd (omega arith)
repeat_step (suc n) m d t h =
    let e : n ≡ m = omega arith in
    rw e

pub repeat_over : {A : Type 0} (n : ℕ) (d : A) (t : Exchange (Turn A)) → n ≤ 0 → repeat n d t ≡ done d
unfolding repeat
repeat_over zero d t h = refl
repeat_over (suc n) d t h = absurd (omega arith)

less_one : (n : ℕ) → 0 < n → n ≡ suc (n - 1)
less_one n h = omega arith

-- a turn that ends the whole
pub bind_ended : {A : Type 0} (t : Exchange (Turn A)) (rest : Exchange A) (s l : List ℕ) {u w : ℕ} {l' : List ℕ} (e : End A)
    → played (found_end e) u w l' ≡ play t s l → played e u w l' ≡ play (bind t (λ r. turned r rest)) s l
bind_ended t rest s l (yields a) r = bind_done t (λ x. turned x rest) s l r refl refl
bind_ended t rest s l (lacks x) r = bind_lacks t (λ y. turned y rest) s l r refl

-- ---- at a position of the whole

module _ {A : Type 0} {whole : Exchange A} {s l : List ℕ} {u w : ℕ} {l' : List ℕ} (n : ℕ) (d : A) (t : Exchange (Turn A)) (at : Reached whole s l (repeat n d t) u w l') where
  pub reached_over : n ≤ 0 → played (yields d) u w l' ≡ play whole s l
  reached_over h = reached_done (rw (repeat_over n d t h) at at)

  pub reached_turn : (m : ℕ) → n ≡ suc m → Reached whole s l (bind t (λ r. turned r (repeat m d t))) u w l'
  reached_turn m h = rw (repeat_step n m d t h) at at

  -- a callee that makes one turn on what is left
  module _ {e : End (Turn A)} {k u₂ w₂ : ℕ} {x : List ℕ} (h : k ≡ 2 * w) (r : played e u₂ w₂ x ≡ play t (part u s) (part k l')) where
    pub reached_again : (m : ℕ) → n ≡ suc m → e ≡ yields again → Reached whole s l (repeat m d t) (u + u₂) (w + w₂) (restored k l' x)
    reached_again m c q = reached_call t (λ y. turned y (repeat m d t)) (reached_turn m c) h r q

    pub reached_found : {a : A} → 0 < n → e ≡ yields (found a) → played (yields a) (u + u₂) (w + w₂) (restored k l' x) ≡ play whole s l
    reached_found c q = reached_done (reached_call t (λ y. turned y (repeat (n - 1) d t)) (reached_turn (n - 1) (less_one n c)) h r q)

    pub turn_lacks : {y : Lack} → 0 < n → e ≡ lacks y → played (lacks y) (u + u₂) (w + w₂) (restored k l' x) ≡ play whole s l
    turn_lacks c q = reached_lacks t (λ y. turned y (repeat (n - 1) d t)) (reached_turn (n - 1) (less_one n c)) h r q

  -- a callee that makes one turn and only reads
  module _ {e : End (Turn A)} {u₂ w₂ : ℕ} (r : Reads t (part u s) e u₂ w₂) where
    pub reached_again_reads : (m : ℕ) → n ≡ suc m → e ≡ yields again → Reached whole s l (repeat m d t) (u + u₂) w l'
    reached_again_reads m c q = reached_call_reads t (λ y. turned y (repeat m d t)) (reached_turn m c) r q

    pub reached_found_reads : {a : A} → 0 < n → e ≡ yields (found a) → played (yields a) (u + u₂) w l' ≡ play whole s l
    reached_found_reads c q = reached_done (reached_call_reads t (λ y. turned y (repeat (n - 1) d t)) (reached_turn (n - 1) (less_one n c)) r q)

    pub turn_lacks_reads : {y : Lack} → 0 < n → e ≡ lacks y → played (lacks y) (u + u₂) w l' ≡ play whole s l
    turn_lacks_reads c q = reached_lacks_reads t (λ y. turned y (repeat (n - 1) d t)) (reached_turn (n - 1) (less_one n c)) r q
