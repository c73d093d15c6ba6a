-- What the code's functions promise that hand back bytes beside their answer and counts.
use Rattle.std.specs.Prelude.{ℕ, List, ◌≡◌, Result}
use Rattle.exchange.specs.Answer.{Answer}
use Rattle.exchange.specs.Exchange.{Exchange, End, Reads, Played, played, play}
use Rattle.exchange.specs.Keeping.{Kept, kept_end}
use Rattle.ps2_answers.specs.Answers.{ended, used_of, pairs_of}
use Rattle.ps2_answers.specs.declared.Counted.{Counted}
use Rattle.ps2_answers.specs.declared.Refusal.{Refusal}
use Rattle.ps2_kept.specs.declared.KeptBytes.{KeptBytes}
use Rattle.ps2_kept.specs.Kept.{kept_or, kept_at}
use Rattle.ps2_kept.specs.Added.{keeping_onto}

-- A function that has a script alone: its outcome is that
-- of the operation, whose note is the bytes handed back.
pub record ReadsKept {A : Type 0} (t : Exchange (Kept KeptBytes A)) (script : List ℕ) (e : End A)
    (used pairs : ℕ) (k : KeptBytes) : Type 0 where
  pub reads : Reads t script (kept_end e k) used pairs
  pub ended : k ≡ kept_at e k

-- One that has a script and a log.
pub record PlaysKept {A : Type 0} (t : Exchange (Kept KeptBytes A)) (script log : List ℕ)
    (e : End A) (used pairs : ℕ) (log_left : List ℕ) (k : KeptBytes) : Type 0 where
  pub plays : played (kept_end e k) used pairs log_left ≡ play t script log
  pub ended : k ≡ kept_at e k

-- One that adds to bytes that are lent: "After 2, 3 or 21
-- records are as passed in", and so are these.
pub record PlaysLent {A : Type 0} (lent : KeptBytes) (t : Exchange A) (script log : List ℕ)
    (e : End A) (used pairs : ℕ) (log_left : List ℕ) (k : KeptBytes) : Type 0 where
  pub plays : played (kept_end e k) used pairs log_left ≡ play (keeping_onto lent t) script log
  pub ended : k ≡ kept_or lent e k

-- The play that an answer tells, with the bytes that are kept and the log as they are left.
abbrev pub told_kept : {T : Type 0} → Result (Counted T) (Counted Refusal) → KeptBytes → List ℕ
    → Played (Kept KeptBytes (Answer T))
told_kept r k log = played (kept_end (ended r) k) (used_of r) (pairs_of r) log

-- The three promises, with the end and the counts that the answer tells.
abbrev pub ReadsKeptTold : {T : Type 0} → Exchange (Kept KeptBytes (Answer T)) → List ℕ
    → Result (Counted T) (Counted Refusal) → KeptBytes → Type 0
ReadsKeptTold t script r k = ReadsKept t script (ended r) (used_of r) (pairs_of r) k

abbrev pub PlaysKeptTold : {T : Type 0} → Exchange (Kept KeptBytes (Answer T)) → List ℕ → List ℕ
    → Result (Counted T) (Counted Refusal) → List ℕ → KeptBytes → Type 0
PlaysKeptTold t script log r log_left k =
    PlaysKept t script log (ended r) (used_of r) (pairs_of r) log_left k

abbrev pub PlaysLentTold : {T : Type 0} → KeptBytes → Exchange (Answer T) → List ℕ → List ℕ
    → Result (Counted T) (Counted Refusal) → List ℕ → KeptBytes → Type 0
PlaysLentTold lent t script log r log_left k =
    PlaysLent lent t script log (ended r) (used_of r) (pairs_of r) log_left k
