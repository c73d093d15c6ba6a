-- Positions in a repetition with something after it, of an operation that only reads: as a loop in the middle of one goes.
use Prim.Native.Nat.{ℕ, suc, ◌+◌, ◌-◌, ◌≤◌, ◌<◌}
use native.Mathlib.Omega.{arith}
use mathlib.Core.List.{List}
use mathlib.Core.Path.{◌≡◌}
use Rattle.exchange.specs.Exchange.{Exchange, bind, End, yields, Reads}
use Rattle.exchange.specs.Parts.{part}
use Rattle.exchange.specs.Position.{ReadTo}
use Rattle.exchange.specs.Repeat.{Turn, found, again, turned, repeat}
use Rattle.exchange.proofs.Reading.{read_to_same, read_to_last, read_to_call}
use Rattle.exchange.proofs.RepeatThen.{repeat_then_step, repeat_then_over, found_then}

module _ {A B : Type 0} {whole : Exchange B} {s : List ℕ} {u : ℕ} (n : ℕ) (d : A) (t : Exchange (Turn A)) (g : A → Exchange B)
    (at : ReadTo whole s (bind (repeat n d t) g) u) where
  pub read_to_then_over : n ≤ 0 → ReadTo whole s (g d) u
  read_to_then_over h = read_to_same at (repeat_then_over d t g n h)

  read_to_then_step : (m : ℕ) → n ≡ suc m → ReadTo whole s (bind t (λ r. bind (turned r (repeat m d t)) g)) u
  read_to_then_step m h = read_to_same at (repeat_then_step d t g n m h)

  -- a callee that makes one turn
  module _ {e : End (Turn A)} {u₂ w₂ : ℕ} (r : Reads t (part u s) e u₂ w₂) where
    pub read_to_then_again : (m : ℕ) → n ≡ suc m → e ≡ yields again → ReadTo whole s (bind (repeat m d t) g) (u + u₂)
    read_to_then_again m h q = read_to_call t (λ r. bind (turned r (repeat m d t)) g) (read_to_then_step m h) r q

    pub read_to_then_found : {a : A} → 0 < n → e ≡ yields (found a) → ReadTo whole s (g a) (u + u₂)
    read_to_then_found {a} h q =
        read_to_same (read_to_call t (λ r. bind (turned r (repeat (n - 1) d t)) g) (read_to_then_step (n - 1) (omega arith)) r q)
        (found_then g (repeat (n - 1) d t) a)

  -- a turn that ends whatever follows it
  pub read_to_then_end : {e : End B} {u₂ w₂ : ℕ} → ((k : Turn A → Exchange B) → Reads (bind t k) (part u s) e u₂ w₂) → 0 < n → Reads whole s e (u + u₂) 0
  read_to_then_end r h =
      read_to_last (bind t (λ r. bind (turned r (repeat (n - 1) d t)) g)) (read_to_then_step (n - 1) (omega arith)) (r (λ r. bind (turned r (repeat (n - 1) d t)) g))
