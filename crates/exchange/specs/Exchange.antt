-- An operation on the controller's ports, as a tree of its
-- reads and writes, and what it comes to on a script and a log.
use Rattle.std.specs.Prelude.{ℕ, suc, List, [], ◌∷◌, ◌≡◌}

-- The two ports of the 8042: 60 is data; 64 is the status
-- where it is read, and the command where it is written.
pub data Port : Type 0 where
  p60 p64 : Port

-- A port as the log has it: the first byte of a pair.
abbrev pub number : Port → ℕ
number p60 = 0x60
number p64 = 0x64

-- An operation that yields an A: it is done, or it reads a port and goes on by the byte, or it
-- writes a byte to a port and goes on.
pub data Exchange (A : Type 0) : Type 0 where
  done : A → Exchange A
  read : Port → (ℕ → Exchange A) → Exchange A
  write : Port → ℕ → Exchange A → Exchange A

-- One operation, then another that goes by what the first yielded.
unfoldable pub bind : {A B : Type 0} → Exchange A → (A → Exchange B) → Exchange B
bind (done a) next = next a
bind (read p f) next = read p (λ b. bind (f b) next)
bind (write p v t) next = write p v (bind t next)

-- What a play can lack: a script byte for a read of this
-- port (2), or two free bytes of the log for a write (3).
pub data Lack : Type 0 where
  no_script : Port → Lack
  no_log : Lack

-- How a play ends: with what the operation yields, or where it lacks a byte or room.
pub data End (A : Type 0) : Type 0 where
  yields : A → End A
  lacks : Lack → End A

-- The same end, with what it yields told in another way.
abbrev pub told_end : {A B : Type 0} → (A → B) → End A → End B
told_end f (yields a) = yields (f a)
told_end f (lacks x) = lacks x

-- What a play comes to ("Every answer gives the number of script bytes used and of pairs written"):
-- its end, the script bytes used, the pairs written, and the log as it is left.
pub record Played (A : Type 0) : Type 0 where
  pub end : End A
  pub used : ℕ
  pub pairs : ℕ
  pub log : List ℕ

abbrev pub played : {A : Type 0} → End A → ℕ → ℕ → List ℕ → Played A
played e u w l = record { end = e; used = u; pairs = w; log = l }

-- One byte more was used before the rest; one pair more was written before the rest.
abbrev pub after_read : {A : Type 0} → Played A → Played A
after_read o = played o.end (suc o.used) o.pairs o.log

abbrev pub after_write : {A : Type 0} → Port → ℕ → Played A → Played A
after_write p v o = played o.end o.used (suc o.pairs) (number p ∷ v ∷ o.log)

-- The play of an operation on a script and a log. Each read takes the next script byte. Each write
-- puts its pair, the port and the value, into the next two bytes of the log.
unfoldable pub play : {A : Type 0} → Exchange A → List ℕ → List ℕ → Played A
play (done a) script log = played (yields a) 0 0 log
play (read p f) [] log = played (lacks (no_script p)) 0 0 log
play (read p f) (b ∷ script) log = after_read (play (f b) script log)
play (write p v t) script [] = played (lacks no_log) 0 0 []
play (write p v t) script (x ∷ []) = played (lacks no_log) 0 0 (x ∷ [])
play (write p v t) script (x ∷ y ∷ log) = after_write p v (play t script log)

-- A code function that has a script alone: its outcome is that of the operation with every log,
-- which it leaves as it is; it writes no pair.
pub record Reads {A : Type 0} (t : Exchange A) (script : List ℕ) (e : End A) (used pairs : ℕ)
    : Type 0 where
  pub with_any : (log : List ℕ) → played e used 0 log ≡ play t script log
  pub no_pairs : pairs ≡ 0

-- A code function that has a log alone: its outcome is that of
-- the operation with every script, of which it uses no byte.
pub record Writes {A : Type 0} (t : Exchange A) (log : List ℕ) (e : End A) (used pairs : ℕ)
    (log_left : List ℕ) : Type 0 where
  pub with_any : (script : List ℕ) → played e 0 pairs log_left ≡ play t script log
  pub no_bytes : used ≡ 0
