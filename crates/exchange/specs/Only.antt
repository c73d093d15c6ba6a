-- What an operation can yield.
use Rattle.std.specs.Prelude.{ℕ}
use Rattle.exchange.specs.Exchange.{Port, Exchange, done, read, write}

-- Whatever the operation reads, what it yields has P.
pub data Only {A : Type 0} (P : A → Type 0) : Exchange A → Type 0 where
  only_done : {a : A} → P a → Only P (done a)
  only_read : {p : Port} {f : ℕ → Exchange A} → ((b : ℕ) → Only P (f b)) → Only P (read p f)
  only_write : {p : Port} {v : ℕ} {t : Exchange A} → Only P t → Only P (write p v t)
