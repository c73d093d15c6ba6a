-- The reads and writes that a play makes, one by one, and what its counts and its log say of them.
use Rattle.std.specs.Prelude.{ℕ, ◌*◌, ◌≤◌, List, [], ◌∷◌, ◌++◌, ◌≡◌, length, drop}
use Rattle.exchange.specs.Exchange.{Port, number, Exchange, done, read, write, no_script, no_log, End, yields, lacks, Played}

-- One access to a port: the byte that a read brought, or the value that was written.
pub data Access : Type 0 where
  brought : Port → ℕ → Access
  wrote : Port → ℕ → Access

-- The operation t makes these accesses, one after another, and comes to what is left of it.
pub data Makes {A : Type 0} : Exchange A → List Access → Exchange A → Type 0 where
  nothing : {t : Exchange A} → Makes t [] t
  by_read : {p : Port} {b : ℕ} {f : ℕ → Exchange A} {more : List Access} {rest : Exchange A}
      → Makes (f b) more rest → Makes (read p f) (brought p b ∷ more) rest
  by_write : {p : Port} {v : ℕ} {t : Exchange A} {more : List Access} {rest : Exchange A}
      → Makes t more rest → Makes (write p v t) (wrote p v ∷ more) rest

-- The bytes that were read, in order.
abbrev pub bytes : List Access → List ℕ
bytes [] = []
bytes (brought p b ∷ more) = b ∷ bytes more
bytes (wrote p v ∷ more) = bytes more

-- The ports that were read, in order: one for each byte.
abbrev pub ports_read : List Access → List Port
ports_read [] = []
ports_read (brought p b ∷ more) = p ∷ ports_read more
ports_read (wrote p v ∷ more) = ports_read more

-- The pairs that were written, in order: each the port, then the value.
abbrev pub logged : List Access → List ℕ
logged [] = []
logged (brought p b ∷ more) = logged more
logged (wrote p v ∷ more) = number p ∷ v ∷ logged more

-- The accesses that a play makes on a script and a log, in order.
unfoldable pub accesses : {A : Type 0} → Exchange A → List ℕ → List ℕ → List Access
accesses (done a) script log = []
accesses (read p f) [] log = []
accesses (read p f) (b ∷ script) log = brought p b ∷ accesses (f b) script log
accesses (write p v t) script [] = []
accesses (write p v t) script (x ∷ []) = []
accesses (write p v t) script (x ∷ y ∷ log) = wrote p v ∷ accesses t script log

-- Why a play ends where this is left of the operation, of the script and of the log: it is done; a
-- read finds no byte; a write finds fewer than two.
pub data Ends {A : Type 0} : Exchange A → List ℕ → List ℕ → End A → Type 0 where
  is_done : {a : A} {script log : List ℕ} → Ends (done a) script log (yields a)
  no_byte : {p : Port} {f : ℕ → Exchange A} {log : List ℕ}
      → Ends (read p f) [] log (lacks (no_script p))
  no_pair : {p : Port} {v : ℕ} {t : Exchange A} {script log : List ℕ} → length log ≤ 1
      → Ends (write p v t) script log (lacks no_log)

-- The play counts each of its reads and writes: the bytes used are the script's first and are those
-- read; the pairs written are at the log's start, and every other byte of it is as it was.
pub record Counts {A : Type 0} (t : Exchange A) (script log : List ℕ) (o : Played A) : Type 0 where
  pub rest : Exchange A
  pub makes : Makes t (accesses t script log) rest
  pub used : length (bytes (accesses t script log)) ≡ o.used
  pub ports : length (ports_read (accesses t script log)) ≡ o.used
  pub pairs : length (logged (accesses t script log)) ≡ 2 * o.pairs
  pub bytes_read : script ≡ bytes (accesses t script log) ++ drop o.used script
  pub room : 2 * o.pairs ≤ length log
  pub log_left : o.log ≡ logged (accesses t script log) ++ drop (2 * o.pairs) log
  pub ends : Ends rest (drop o.used script) (drop (2 * o.pairs) log) o.end
