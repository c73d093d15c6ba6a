-- A repetition with a note of the bytes that it read, turn by turn: the note goes from turn to turn.
use Prim.Native.Nat.{ℕ, suc, ◌+◌, ◌*◌, ◌-◌, ◌≤◌, ◌<◌}
use native.Mathlib.Omega.{arith}
use mathlib.Core.List.{List}
use mathlib.Core.Path.{◌≡◌, refl, ap, ◌∙◌}
use Rattle.exchange.specs.Exchange.{Exchange, done, bind, End, yields, lacks, Reads, played, play}
use Rattle.exchange.specs.Parts.{part, restored}
use Rattle.exchange.specs.Position.{Reached, ReadTo}
use Rattle.exchange.specs.Repeat.{Turn, again, turned, found_end, repeat}
use Rattle.exchange.specs.Keeping.{Kept, kept, keeping, kept_end}
use Rattle.exchange.proofs.Calls.{bind_done, bind_lacks, reached_last, reached_call}
use Rattle.exchange.proofs.Position.{reached_same, reached_done}
use Rattle.exchange.proofs.Reading.{read_to_same, read_to_done, read_to_call, read_to_last}
use Rattle.exchange.proofs.Repeat.{repeat_step, repeat_over}
use Rattle.exchange.proofs.Keeping.{keeping-bind, keeping-done}

module _ {S A : Type 0} (note : S → ℕ → S) (d : A) (t : Exchange (Turn A)) where
  -- what follows a turn and its note
  abbrev kept_turned : ℕ → Kept S (Turn A) → Exchange (Kept S A)
  kept_turned m k = keeping note k.bytes (turned k.value (repeat m d t))

  keeping_step : (s : S) (n m : ℕ) → n ≡ suc m → keeping note s (repeat n d t) ≡ bind (keeping note s t) (kept_turned m)
  keeping_step s n m h = ap (keeping note s) (repeat_step n m d t h) ∙ keeping-bind note (λ r. turned r (repeat m d t)) s t

  keeping_over : (s : S) (n : ℕ) → n ≤ 0 → keeping note s (repeat n d t) ≡ done (kept d s)
  keeping_over s n h = ap (keeping note s) (repeat_over n d t h) ∙ keeping-done note s d

  -- a turn that ends the whole
  kept_ended : (before s : S) (m : ℕ) (script log : List ℕ) {u w : ℕ} {l' : List ℕ} (e : End A)
      → played (kept_end (found_end e) s) u w l' ≡ play (keeping note before t) script log
      → played (kept_end e s) u w l' ≡ play (bind (keeping note before t) (kept_turned m)) script log
  kept_ended before s m script log (yields a) r = bind_done (keeping note before t) (kept_turned m) script log r refl (keeping-done note s a)
  kept_ended before s m script log (lacks x) r = bind_lacks (keeping note before t) (kept_turned m) script log r refl

  -- ---- a repetition that only reads

  module _ {whole : Exchange (Kept S A)} {script : List ℕ} {u : ℕ} (s : S) (n : ℕ) (at : ReadTo whole script (keeping note s (repeat n d t)) u) where
    pub kept_over : n ≤ 0 → Reads whole script (yields (kept d s)) u 0
    kept_over h = read_to_done (read_to_same at (keeping_over s n h))

    module _ (e : End (Turn A)) (s₂ : S) {u₂ w₂ : ℕ} (r : Reads (keeping note s t) (part u script) (kept_end e s₂) u₂ w₂) where
      pub kept_again : (m : ℕ) → n ≡ suc m → e ≡ yields again → ReadTo whole script (keeping note s₂ (repeat m d t)) (u + u₂)
      kept_again m h q = read_to_call (keeping note s t) (kept_turned m) (read_to_same at (keeping_step s n m h)) r (ap (λ x. kept_end x s₂) q)

      pub kept_end_lem : (x : End A) → 0 < n → e ≡ found_end x → Reads whole script (kept_end x s₂) (u + u₂) 0
      kept_end_lem x h q =
          read_to_last (bind (keeping note s t) (kept_turned (n - 1))) (read_to_same at (keeping_step s n (n - 1) (omega arith)))
          (record { with_any = λ l. kept_ended s s₂ (n - 1) (part u script) l x (rw q at (r.with_any l)); no_pairs = r.no_pairs })

  -- ---- one that also writes

  module _ {whole : Exchange (Kept S A)} {script log : List ℕ} {u w : ℕ} {l' : List ℕ} (s : S) (n : ℕ) (at : Reached whole script log (keeping note s (repeat n d t)) u w l') where
    pub reached_kept_over : n ≤ 0 → played (yields (kept d s)) u w l' ≡ play whole script log
    reached_kept_over h = reached_done (reached_same at (keeping_over s n h))

    module _ (e : End (Turn A)) (s₂ : S) {k u₂ w₂ : ℕ} {x : List ℕ} (h : k ≡ 2 * w) (r : played (kept_end e s₂) u₂ w₂ x ≡ play (keeping note s t) (part u script) (part k l')) where
      pub reached_kept_again : (m : ℕ) → n ≡ suc m → e ≡ yields again → Reached whole script log (keeping note s₂ (repeat m d t)) (u + u₂) (w + w₂) (restored k l' x)
      reached_kept_again m c q = reached_call (keeping note s t) (kept_turned m) (reached_same at (keeping_step s n m c)) h r (ap (λ y. kept_end y s₂) q)

      pub reached_kept_end : (y : End A) → 0 < n → e ≡ found_end y → played (kept_end y s₂) (u + u₂) (w + w₂) (restored k l' x) ≡ play whole script log
      reached_kept_end y c q =
          reached_last (bind (keeping note s t) (kept_turned (n - 1))) (reached_same at (keeping_step s n (n - 1) (omega arith))) h
          (kept_ended s s₂ (n - 1) (part u script) (part k l') y (rw q at r))
