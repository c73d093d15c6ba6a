-- A note of the bytes that are read adds no read and no write.
use Prim.Native.Nat.{ℕ}
use Rattle.exchange.specs.Exchange.{Exchange}
use Rattle.exchange.specs.Attains.{Attains, attains_done, attains_read, attains_write}
use Rattle.exchange.specs.Bounds.{Within, within_done, within_read, within_write}
use Rattle.exchange.specs.Keeping.{kept, noted, keeping}

module _ {S A : Type 0} (note : S → ℕ → S) where
  pub within_keeping : {r w : ℕ} {t : Exchange A} (s : S) → Within r w t → Within r w (keeping note s t)
  unfolding keeping
  within_keeping s within_done = within_done
  within_keeping s (within_read {p = p} f) = within_read (λ b. within_keeping (noted note p s b) (f b))
  within_keeping s (within_write x) = within_write (within_keeping s x)

  -- what is yielded, with some note beside it
  pub attains_keeping : {a : A} {r w : ℕ} {t : Exchange A} (s : S) → Attains a r w t → (n : S) × Attains (kept a n) r w (keeping note s t)
  unfolding keeping
  attains_keeping s attains_done = (s, attains_done)
  attains_keeping s (attains_read {p = p} b h x) = let k = attains_keeping (noted note p s b) x in (k.0, attains_read b h k.1)
  attains_keeping s (attains_write x) = let k = attains_keeping s x in (k.0, attains_write k.1)
