-- Promises of functions that hand back bytes: from nothing kept; and without the bytes, the promise of the operation as it was.
use Prim.Native.Nat.{ℕ, ◌≤◌}
use mathlib.Core.List.{List, []}
use mathlib.Core.Path.{◌≡◌, refl, ◌∙◌}
use Rattle.exchange.specs.Exchange.{Exchange, done, bind, End, yields, lacks, played, play, Reads}
use Rattle.exchange.specs.Bounds.{Within}
use Rattle.exchange.specs.Keeping.{Kept, keeping, retold, kept_end}
use Rattle.exchange.proofs.Keeping.{keeping_forgets, end_forgets}
use Rattle.exchange.proofs.Sequence.{bind_assoc}
use Rattle.exchange.proofs.Told.{bind_told}
use Rattle.ps2_kept.specs.declared.KeptBytes.{KeptBytes}
use Rattle.ps2_kept.specs.Thrown.{thrown}
use Rattle.ps2_kept.specs.Kept.{kept_of, nothing_kept, keeping_thrown, kept_or, kept_at}
use Rattle.ps2_kept.specs.Added.{others_limit, keeping_onto}
use Rattle.ps2_kept.specs.Promises.{ReadsKept, PlaysKept, PlaysLent}
use Rattle.ps2_kept.proofs.Thrown.{keeping_thrown_lem}

-- ---- an operation that adds to nothing hands back what the definition says

module _ {A : Type 0} {t : Exchange A} {r w : ℕ} (h : Within r w t) (m : r ≤ others_limit) {k₀ : KeptBytes} (q : k₀ ≡ nothing_kept) where
  pub reads_from_nothing : {script : List ℕ} {e : End A} {used pairs : ℕ} {k : KeptBytes}
      → ReadsKept (keeping_onto k₀ t) script e used pairs k → ReadsKept (keeping_thrown t) script e used pairs k
  reads_from_nothing x = rw (keeping_thrown_lem h m) (rw q at x)

  pub plays_from_nothing : {script log left : List ℕ} {e : End A} {used pairs : ℕ} {k : KeptBytes}
      → PlaysKept (keeping_onto k₀ t) script log e used pairs left k → PlaysKept (keeping_thrown t) script log e used pairs left k
  plays_from_nothing x = rw (keeping_thrown_lem h m) (rw q at x)

-- ---- dropped, the bytes leave the operation as it was

thrown_forgets : {A : Type 0} (t : Exchange A) → bind (keeping_thrown t) (λ k. done k.value) ≡ t
unfolding keeping_thrown bind
thrown_forgets t =
    bind_assoc (keeping thrown [] t) (λ k. done (retold kept_of k)) (λ k. done k.value) ∙ keeping_forgets thrown [] t

module _ {A : Type 0} (t : Exchange A) where
  forgets : (k : KeptBytes) (script log : List ℕ) (e : End A) {used pairs : ℕ} {left : List ℕ}
      → played (kept_end e k) used pairs left ≡ play (keeping_thrown t) script log → played e used pairs left ≡ play t script log
  forgets k script log e x = rw (end_forgets e k, thrown_forgets t) at (bind_told (keeping_thrown t) (λ y. y.value) script log x refl)

  module _ {script : List ℕ} {e : End A} {used pairs : ℕ} {k : KeptBytes} where
    pub plays_forgets : {log left : List ℕ} → PlaysKept (keeping_thrown t) script log e used pairs left k → played e used pairs left ≡ play t script log
    plays_forgets {log} x = forgets k script log e x.plays

    pub reads_forgets : ReadsKept (keeping_thrown t) script e used pairs k → Reads t script e used pairs
    reads_forgets x = record { with_any = λ l. forgets k script l e (x.reads.with_any l); no_pairs = x.reads.no_pairs }

-- ---- what is handed back is what was kept, and nothing after a lack; what was lent is then as it was lent

module _ (otherwise : KeptBytes) where
  or_end : {A : Type 0} (e : End A) (k : KeptBytes) {k₂ : KeptBytes} → k₂ ≡ kept_or otherwise e k → kept_end e k₂ ≡ kept_end e k
  or_end (yields a) k q = rw q
  or_end (lacks x) k q = refl

  or_again : {A : Type 0} (e : End A) (k : KeptBytes) {k₂ : KeptBytes} → k₂ ≡ kept_or otherwise e k → k₂ ≡ kept_or otherwise e k₂
  or_again (yields a) k q = refl
  or_again (lacks x) k q = q

or_same : {A : Type 0} (k : KeptBytes) (e : End A) → k ≡ kept_or k e k
or_same k (yields a) = refl
or_same k (lacks x) = refl

module _ {A : Type 0} (e : End A) (k : KeptBytes) {script : List ℕ} {used pairs : ℕ} where
  module _ {t : Exchange (Kept KeptBytes A)} {k₂ : KeptBytes} (q : k₂ ≡ kept_at e k) where
    pub reads_handed : Reads t script (kept_end e k) used pairs → ReadsKept t script e used pairs k₂
    reads_handed x =
        record { reads = record { with_any = λ l. rw (or_end nothing_kept e k q) (x.with_any l); no_pairs = x.no_pairs }; ended = or_again nothing_kept e k q }

    pub plays_handed : {log left : List ℕ} → played (kept_end e k) used pairs left ≡ play t script log → PlaysKept t script log e used pairs left k₂
    plays_handed x = record { plays = rw (or_end nothing_kept e k q) x; ended = or_again nothing_kept e k q }

  pub plays_lent : {lent k₂ : KeptBytes} {t : Exchange A} → k₂ ≡ kept_or lent e k → {log left : List ℕ} → played (kept_end e k) used pairs left ≡ play (keeping_onto lent t) script log
      → PlaysLent lent t script log e used pairs left k₂
  plays_lent {lent} q x = record { plays = rw (or_end lent e k q) x; ended = or_again lent e k q }

  -- bytes that an exchange leaves as they were lent, whatever its end
  pub unchanged_lent : {t : Exchange A} {log left : List ℕ} → played (kept_end e k) used pairs left ≡ play (keeping_onto k t) script log → PlaysLent k t script log e used pairs left k
  unchanged_lent x = record { plays = x; ended = or_same k e }
