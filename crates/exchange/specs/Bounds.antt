-- The most reads and writes that an operation can make, whatever it reads.
use Rattle.std.specs.Prelude.{ℕ, suc}
use Rattle.exchange.specs.Exchange.{Port, Exchange, done, read, write}

-- At most r reads and w writes on every way through the operation.
pub data Within {A : Type 0} : ℕ → ℕ → Exchange A → Type 0 where
  within_done : {r w : ℕ} {a : A} → Within r w (done a)
  within_read : {r w : ℕ} {p : Port} {f : ℕ → Exchange A} → ((b : ℕ) → Within r w (f b))
      → Within (suc r) w (read p f)
  within_write : {r w : ℕ} {p : Port} {v : ℕ} {t : Exchange A} → Within r w t
      → Within r (suc w) (write p v t)
