-- What an operation can write.
use Rattle.std.specs.Prelude.{ℕ, List, [], ◌∷◌}
use Rattle.exchange.specs.Exchange.{Port, p60, p64, Exchange, done, read, write}
use Rattle.exchange.specs.Trace.{Access, brought, wrote}

-- Whatever the operation reads, each of its writes has W.
pub data Sends {A : Type 0} (W : Port → ℕ → Type 0) : Exchange A → Type 0 where
  sends_done : {a : A} → Sends W (done a)
  sends_read : {p : Port} {f : ℕ → Exchange A} → ((b : ℕ) → Sends W (f b)) → Sends W (read p f)
  sends_write : {p : Port} {v : ℕ} {t : Exchange A} → W p v → Sends W t → Sends W (write p v t)

-- The values that were written to port 64, in order: the controller commands.
abbrev pub to_controller : List Access → List ℕ
to_controller [] = []
to_controller (brought p b ∷ more) = to_controller more
to_controller (wrote p60 v ∷ more) = to_controller more
to_controller (wrote p64 v ∷ more) = v ∷ to_controller more
