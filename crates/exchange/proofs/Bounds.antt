-- The most reads and writes: of a sequence and of a repetition, and what they mean for every play.
use Prim.Native.Nat.{ℕ, zero, suc, ◌+◌, ◌*◌, ◌≤◌, zero-le}
use native.Mathlib.Nat.{suc-add, not-suc-le-zero, le_of_suc-le-suc}
use native.Mathlib.Omega.{arith}
use mathlib.Core.List.{List, [], ◌∷◌}
use mathlib.Core.Path.{◌≡◌, refl}
use lib.ListN.{length}
use Rattle.exchange.specs.Exchange.{Exchange, bind, yields, no_log, lacks, play}
use Rattle.exchange.specs.Bounds.{Within, within_done, within_read, within_write}
use Rattle.exchange.specs.Repeat.{Turn, found, again, turned, repeat}

module _ {A : Type 0} where
  pub within_more : {r w : ℕ} {t : Exchange A} → Within r w t → (r' w' : ℕ) → r ≤ r' → w ≤ w' → Within r' w' t
  within_more within_done r' w' h k = within_done
  within_more (within_read f) zero w' h k = absurd (not-suc-le-zero h)
  within_more (within_read f) (suc r') w' h k = within_read (λ b. within_more (f b) r' w' (le_of_suc-le-suc h) k)
  within_more (within_write x) r' zero h k = absurd (not-suc-le-zero k)
  within_more (within_write x) r' (suc w') h k = within_write (within_more x r' w' h (le_of_suc-le-suc k))

-- one after the other: the sums
pub within_bind : {A B : Type 0} {r w r' w' : ℕ} {t : Exchange A} {g : A → Exchange B} → Within r w t → ((a : A) → Within r' w' (g a)) → Within (r + r') (w + w') (bind t g)
unfolding bind
within_bind {r = r} {w = w} {r' = r'} {w' = w'} (within_done {a = a}) k = within_more (k a) (r + r') (w + w') (omega arith) (omega arith)
within_bind (within_read f) k = rw suc-add (within_read (λ b. within_bind (f b) k))
within_bind (within_write x) k = rw suc-add (within_write (within_bind x k))

module _ {A : Type 0} {r w : ℕ} {t : Exchange (Turn A)} (h : Within r w t) (d : A) where
  within_turned : (n : ℕ) (x : Turn A) → Within (n * r) (n * w) (repeat n d t) → Within (n * r) (n * w) (turned x (repeat n d t))
  within_turned n (found a) k = within_done
  within_turned n again k = k

  -- n turns: n times as many
  pub within_repeat : (n : ℕ) → Within (n * r) (n * w) (repeat n d t)
  unfolding repeat
  within_repeat zero = within_done
  within_repeat (suc n) =
      within_more (within_bind h (λ x. within_turned n x (within_repeat n))) (suc n * r) (suc n * w) (omega arith) (omega arith)

-- ---- what the bounds mean

module _ {A : Type 0} where
  pub within_used : {r w : ℕ} {t : Exchange A} → Within r w t → (s l : List ℕ) → (play t s l).used ≤ r
  unfolding play
  within_used within_done s l = zero-le
  within_used (within_read f) [] l = zero-le
  within_used (within_read f) (b ∷ s) l = omega (arith, within_used (f b) s l)
  within_used (within_write x) s [] = zero-le
  within_used (within_write x) s (a ∷ []) = zero-le
  within_used (within_write x) s (a ∷ b ∷ l) = within_used x s l

  pub within_pairs : {r w : ℕ} {t : Exchange A} → Within r w t → (s l : List ℕ) → (play t s l).pairs ≤ w
  unfolding play
  within_pairs within_done s l = zero-le
  within_pairs (within_read f) [] l = zero-le
  within_pairs (within_read f) (b ∷ s) l = within_pairs (f b) s l
  within_pairs (within_write x) s [] = zero-le
  within_pairs (within_write x) s (a ∷ []) = zero-le
  within_pairs (within_write x) s (a ∷ b ∷ l) = omega (arith, within_pairs x s l)

  -- with that much script and log the operation comes to its own end
  pub within_yields : {r w : ℕ} {t : Exchange A} → Within r w t → (s l : List ℕ) → r ≤ length s → 2 * w ≤ length l
      → (a : A) × ((play t s l).end ≡ yields a)
  unfolding play
  within_yields (within_done {a = a}) s l h k = (a, refl)
  within_yields (within_read f) [] l h k = absurd (not-suc-le-zero h)
  within_yields (within_read f) (b ∷ s) l h k = within_yields (f b) s l (le_of_suc-le-suc h) k
  within_yields (within_write x) s [] h k = absurd (omega arith)
  within_yields (within_write x) s (a ∷ []) h k = absurd (omega arith)
  within_yields (within_write x) s (a ∷ b ∷ l) h k = within_yields x s l h (omega arith)

  -- with that much log no write lacks room
  pub within_room : {r w : ℕ} {t : Exchange A} → Within r w t → (s l : List ℕ) → 2 * w ≤ length l → (play t s l).end ≡ lacks no_log → ⊥
  unfolding play
  within_room within_done s l k e = let z : ◌≡◌ {A = ℕ} 0 1 = cc in omega arith
  within_room (within_read f) [] l k e = let z : ◌≡◌ {A = ℕ} 0 1 = cc in omega arith
  within_room (within_read f) (b ∷ s) l k e = within_room (f b) s l k e
  within_room (within_write x) s [] k e = omega arith
  within_room (within_write x) s (a ∷ []) k e = omega arith
  within_room (within_write x) s (a ∷ b ∷ l) k e = within_room x s l (omega arith) e
