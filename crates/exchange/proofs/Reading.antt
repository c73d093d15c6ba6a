-- Positions of an operation that only reads: the laws of positions, with every log.
use Prim.Native.Nat.{ℕ, suc, ◌+◌, ◌-◌, ◌≤◌, ◌<◌}
use native.Mathlib.Omega.{arith}
use mathlib.Core.List.{List, []}
use mathlib.Core.Path.{◌≡◌, refl}
use lib.ListN.{length, get_or}
use Rattle.exchange.specs.Exchange.{Port, Exchange, done, read, bind, Lack, no_script, End, yields, lacks, Reads}
use Rattle.exchange.specs.Parts.{part}
use Rattle.exchange.specs.Position.{ReadTo}
use Rattle.exchange.specs.Repeat.{Turn, found, again, turned, found_end, repeat}
use Rattle.exchange.proofs.Position.{reached_start, reached_same, reached_done, reached_read, reached_no_byte}
use Rattle.exchange.proofs.Calls.{reached_last_reads, reached_call_reads, reached_lacks_reads}
use Rattle.exchange.proofs.Repeat.{bind_ended, reached_over, reached_turn, reached_again_reads, reached_found_reads, turn_lacks_reads}

module _ {A : Type 0} where
  pub read_to_start : (t : Exchange A) (s : List ℕ) → ReadTo t s t 0
  read_to_start t s = record { with_any = λ l. reached_start t s l }

module _ {A : Type 0} {whole : Exchange A} {s : List ℕ} {u : ℕ} where
  pub read_to_used_le : {rest : Exchange A} → ReadTo whole s rest u → u ≤ length s
  read_to_used_le at = (at.with_any []).used_le

  pub read_to_same : {rest : Exchange A} → ReadTo whole s rest u → {rest' : Exchange A} → rest ≡ rest' → ReadTo whole s rest' u
  read_to_same at q = record { with_any = λ l. reached_same (at.with_any l) q }

  pub read_to_done : {a : A} → ReadTo whole s (done a) u → Reads whole s (yields a) u 0
  read_to_done at = record { with_any = λ l. reached_done (at.with_any l); no_pairs = refl }

  -- a read of one's own
  pub read_to_read : {p : Port} {f : ℕ → Exchange A} → ReadTo whole s (read p f) u → u < length s → ReadTo whole s (f (get_or s u 0)) (u + 1)
  read_to_read at h = record { with_any = λ l. reached_read (at.with_any l) h }

  pub read_to_no_byte : {p : Port} {f : ℕ → Exchange A} → ReadTo whole s (read p f) u → length s ≤ u → Reads whole s (lacks (no_script p)) u 0
  read_to_no_byte at h = record { with_any = λ l. reached_no_byte (at.with_any l) h; no_pairs = refl }

  -- a callee that has what is left of the script, `&script[u..]`
  pub read_to_last : (t : Exchange A) → ReadTo whole s t u → {e : End A} {u₂ w₂ : ℕ} → Reads t (part u s) e u₂ w₂ → Reads whole s e (u + u₂) 0
  read_to_last t at r = record { with_any = λ l. reached_last_reads t (at.with_any l) r; no_pairs = refl }

  module _ {B : Type 0} (t : Exchange B) (g : B → Exchange A) (at : ReadTo whole s (bind t g) u) {e : End B} {u₂ w₂ : ℕ} (r : Reads t (part u s) e u₂ w₂) where
    pub read_to_call : {b : B} → e ≡ yields b → ReadTo whole s (g b) (u + u₂)
    read_to_call q = record { with_any = λ l. reached_call_reads t g (at.with_any l) r q }

    pub read_to_lacks : {x : Lack} → e ≡ lacks x → Reads whole s (lacks x) (u + u₂) 0
    read_to_lacks q = record { with_any = λ l. reached_lacks_reads t g (at.with_any l) r q; no_pairs = refl }

-- a repetition
module _ {A : Type 0} {whole : Exchange A} {s : List ℕ} {u : ℕ} (n : ℕ) (d : A) (t : Exchange (Turn A)) (at : ReadTo whole s (repeat n d t) u) where
  pub read_to_over : n ≤ 0 → Reads whole s (yields d) u 0
  read_to_over h = record { with_any = λ l. reached_over n d t (at.with_any l) h; no_pairs = refl }

  pub read_to_turn : (m : ℕ) → n ≡ suc m → ReadTo whole s (bind t (λ r. turned r (repeat m d t))) u
  read_to_turn m h = record { with_any = λ l. reached_turn n d t (at.with_any l) m h }

  module _ {e : End (Turn A)} {u₂ w₂ : ℕ} (r : Reads t (part u s) e u₂ w₂) where
    pub read_to_again : (m : ℕ) → n ≡ suc m → e ≡ yields again → ReadTo whole s (repeat m d t) (u + u₂)
    read_to_again m c q = record { with_any = λ l. reached_again_reads n d t (at.with_any l) r m c q }

    pub read_to_found : {a : A} → 0 < n → e ≡ yields (found a) → Reads whole s (yields a) (u + u₂) 0
    read_to_found c q = record { with_any = λ l. reached_found_reads n d t (at.with_any l) r c q; no_pairs = refl }

    pub read_to_turn_lacks : {x : Lack} → 0 < n → e ≡ lacks x → Reads whole s (lacks x) (u + u₂) 0
    read_to_turn_lacks c q = record { with_any = λ l. turn_lacks_reads n d t (at.with_any l) r c q; no_pairs = refl }

    pub read_to_end : (x : End A) → 0 < n → e ≡ found_end x → Reads whole s x (u + u₂) 0
    read_to_end x c q =
        read_to_last (bind t (λ y. turned y (repeat (n - 1) d t))) (read_to_turn (n - 1) (omega arith))
        (record { with_any = λ l. bind_ended t (repeat (n - 1) d t) (part u s) l x (rw q at (r.with_any l)); no_pairs = r.no_pairs })
