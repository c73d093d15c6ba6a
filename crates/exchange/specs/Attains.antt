-- Bounds that are attained: a way through an operation, by bytes that it may read.
use Rattle.std.specs.Prelude.{ℕ, suc, ◌*◌, ◌≤◌, ◌<◌, List, [], ◌∷◌, ◌≡◌, length}
use Rattle.exchange.specs.Exchange.{Port, Exchange, done, read, write, yields, play}
use Rattle.exchange.specs.Bounds.{Within}

-- There are bytes on which the operation makes just r reads and w writes, and yields a.
pub data Attains {A : Type 0} (a : A) : ℕ → ℕ → Exchange A → Type 0 where
  attains_done : Attains a 0 0 (done a)
  attains_read : {r w : ℕ} {p : Port} {f : ℕ → Exchange A} (b : ℕ) → b < 256 → Attains a r w (f b)
      → Attains a (suc r) w (read p f)
  attains_write : {r w : ℕ} {p : Port} {v : ℕ} {t : Exchange A} → Attains a r w t
      → Attains a r (suc w) (write p v t)

-- The most reads and writes of an operation: no way through
-- it has more of either, and one has just so many of both.
pub record Most {A : Type 0} (r w : ℕ) (t : Exchange A) : Type 0 where
  pub within : Within r w t
  pub yielded : A
  pub attains : Attains yielded r w t

-- A list of bytes.
abbrev pub Bytes : List ℕ → Type 0
Bytes [] = Unit
Bytes (b ∷ l) = (b < 256) × Bytes l

-- A script of r bytes, on which the operation uses them all,
-- writes w pairs into every log that has the room, and yields a.
pub record Script {A : Type 0} (a : A) (r w : ℕ) (t : Exchange A) : Type 0 where
  pub script : List ℕ
  pub bytes : Bytes script
  pub long : length script ≡ r
  pub ends : (log : List ℕ) → 2 * w ≤ length log → (play t script log).end ≡ yields a
  pub used : (log : List ℕ) → 2 * w ≤ length log → (play t script log).used ≡ r
  pub pairs : (log : List ℕ) → 2 * w ≤ length log → (play t script log).pairs ≡ w
