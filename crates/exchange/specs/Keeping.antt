-- An operation that also yields a note of the bytes that it read from port 60.
use Rattle.std.specs.Prelude.{ℕ}
use Rattle.exchange.specs.Exchange.{Port, p60, p64, Exchange, done, read, write, End, told_end}

-- What such an operation yields: what it yielded without the note, and the note.
pub record Kept (S A : Type 0) : Type 0 where
  pub value : A
  pub bytes : S

abbrev pub kept : {S A : Type 0} → A → S → Kept S A
kept a s = record { value = a; bytes = s }

-- A byte from port 60 is noted; the status, from port 64, is not.
abbrev pub noted : {S : Type 0} → (S → ℕ → S) → Port → S → ℕ → S
noted note p60 s b = note s b
noted note p64 s b = s

-- The same operation, read for read and write for write, with a note that begins as s.
unfoldable pub keeping : {S A : Type 0} → (S → ℕ → S) → S → Exchange A → Exchange (Kept S A)
keeping note s (done a) = done (kept a s)
keeping note s (read p f) = read p (λ b. keeping note (noted note p s b) (f b))
keeping note s (write p v t) = write p v (keeping note s t)

-- The note told in another way.
abbrev pub retold : {S R A : Type 0} → (S → R) → Kept S A → Kept R A
retold h k = kept k.value (h k.bytes)

-- The end of a play, with a note beside what it yields.
abbrev pub kept_end : {S A : Type 0} → End A → S → End (Kept S A)
kept_end e s = told_end (λ a. kept a s) e

-- Whatever it reads is the status: a sending is such an operation.
pub data NoData {A : Type 0} : Exchange A → Type 0 where
  no_data_done : {a : A} → NoData (done a)
  no_data_read : {f : ℕ → Exchange A} → ((b : ℕ) → NoData (f b)) → NoData (read p64 f)
  no_data_write : {p : Port} {v : ℕ} {t : Exchange A} → NoData t → NoData (write p v t)
