-- An operation that found no room for a write, run again with a log that has more.
use Prim.Native.Nat.{ℕ, zero-le}
use native.Mathlib.Omega.{arith}
use mathlib.Core.List.{List, [], ◌∷◌, ◌++◌}
use mathlib.Core.Path.{◌≡◌, refl, ap}
use Rattle.exchange.specs.Exchange.{number, Exchange, done, read, write, no_log, lacks, Played, played, after_read, after_write, play}
use Rattle.exchange.proofs.Parts.{twice_suc}
use Rattle.theorem_cut_scripts.specs.SoFar.{WroteFirst}
use Rattle.theorem_cut_scripts.specs.Room.{WithRoom}

module _ {A : Type 0} where
  -- nothing was written yet
  first_of_all : (o p : Played A) → o.pairs ≡ 0 → WroteFirst o p
  first_of_all o p h = record { no_more = rw h zero-le; in_place = rw h refl }

  first_written : (t : Exchange A) (s l m : List ℕ) → WroteFirst (play t s l) (play t s (l ++ m))
  unfolding play
  first_written (done a) s l m = first_of_all _ _ refl
  first_written (read p f) [] l m = first_of_all _ _ refl
  first_written (read p f) (b ∷ s) l m =
      let k = first_written (f b) s l m in
      record { no_more = k.no_more; in_place = k.in_place }
  first_written (write p v t) s [] m = first_of_all _ _ refl
  first_written (write p v t) s (x ∷ []) m = first_of_all _ _ refl
  first_written (write p v t) s (x ∷ y ∷ l) m =
      let k = first_written t s l m in
      record {
        no_more = omega (arith, k.no_more);
        in_place = rw (twice_suc (play t s l).pairs) (ap (λ (r : List ℕ). number p ∷ v ∷ r) k.in_place);
      }

  else_same : (t : Exchange A) (s l m : List ℕ) → ((play t s l).end ≡ lacks no_log → ⊥)
      → play t s (l ++ m) ≡ played (play t s l).end (play t s l).used (play t s l).pairs ((play t s l).log ++ m)
  unfolding play
  else_same (done a) s l m h = refl
  else_same (read p f) [] l m h = refl
  else_same (read p f) (b ∷ s) l m h = ap (λ (o : Played A). after_read o) (else_same (f b) s l m h)
  else_same (write p v t) s [] m h = absurd (h refl)
  else_same (write p v t) s (x ∷ []) m h = absurd (h refl)
  else_same (write p v t) s (x ∷ y ∷ l) m h = ap (λ (o : Played A). after_write p v o) (else_same t s l m h)

  pub with_room : (t : Exchange A) (script log more : List ℕ) → WithRoom t script log more
  with_room t script log more = record { wrote = first_written t script log more; same = else_same t script log more }
