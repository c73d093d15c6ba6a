-- The play on a script that is cut after n bytes.
use Prim.Native.Nat.{ℕ, zero, suc, ◌≤◌, zero-le}
use native.Mathlib.Nat.{le_refl}
use native.Mathlib.Omega.{arith}
use mathlib.Core.List.{List, [], ◌∷◌}
use mathlib.Core.Path.{refl, ap}
use lib.ListN.{take}
use Rattle.exchange.specs.Exchange.{Port, number, Exchange, done, read, write, no_script, no_log, yields, lacks, Played, played, after_read, after_write, play}
use Rattle.exchange.specs.Trace.{ports_read, accesses}
use Rattle.exchange.specs.Cut.{Cut}
use Rattle.exchange.proofs.Parts.{twice_suc}

module _ {A : Type 0} where
  -- nothing is cut off that was used
  cut_nothing : (n : ℕ) (ports : List Port) (o : Played A) → o.used ≤ n → Cut n ports o o
  cut_nothing n ports o h =
      record {
        same = λ _. refl;
        ends = λ g. absurd (omega arith);
        uses = λ g. omega arith;
        pairs_le = le_refl _;
        first_pairs = refl;
      }

  cut_read : (p : Port) (n : ℕ) (ports : List Port) (o c : Played A) → Cut n ports o c → Cut (suc n) (p ∷ ports) (after_read o) (after_read c)
  cut_read p n ports o c k =
      record {
        same = λ h. ap (λ (x : Played A). after_read x) (k.same (omega arith));
        ends = λ h. k.ends (omega arith);
        uses = λ h. ap suc (k.uses (omega arith));
        pairs_le = k.pairs_le;
        first_pairs = k.first_pairs;
      }

  cut_write : (p : Port) (v n : ℕ) (ports : List Port) (o c : Played A) → Cut n ports o c → Cut n ports (after_write p v o) (after_write p v c)
  cut_write p v n ports o c k =
      record {
        same = λ h. ap (λ (x : Played A). after_write p v x) (k.same h);
        ends = k.ends;
        uses = k.uses;
        pairs_le = omega (arith, k.pairs_le);
        first_pairs = rw (twice_suc c.pairs) (ap (λ (r : List ℕ). number p ∷ v ∷ r) k.first_pairs);
      }

  pub play_cut : (t : Exchange A) (n : ℕ) (s l : List ℕ) → Cut n (ports_read (accesses t s l)) (play t s l) (play t (take n s) l)
  unfolding play accesses
  play_cut (done a) n s l = cut_nothing n [] (played (yields a) 0 0 l) zero-le
  play_cut (read p f) zero [] l = cut_nothing zero [] (played (lacks (no_script p)) 0 0 l) zero-le
  play_cut (read p f) zero (b ∷ s) l =
      record {
        same = λ h. absurd (omega arith);
        ends = λ h. refl;
        uses = λ h. refl;
        pairs_le = zero-le;
        first_pairs = refl;
      }
  play_cut (read p f) (suc n) [] l = cut_nothing (suc n) [] (played (lacks (no_script p)) 0 0 l) zero-le
  play_cut (read p f) (suc n) (b ∷ s) l = cut_read p n (ports_read (accesses (f b) s l)) (play (f b) s l) (play (f b) (take n s) l) (play_cut (f b) n s l)
  play_cut (write p v t) n s [] = cut_nothing n [] (played (lacks no_log) 0 0 []) zero-le
  play_cut (write p v t) n s (x ∷ []) = cut_nothing n [] (played (lacks no_log) 0 0 (x ∷ [])) zero-le
  play_cut (write p v t) n s (x ∷ y ∷ l) = cut_write p v n (ports_read (accesses t s l)) (play t s l) (play t (take n s) l) (play_cut t n s l)
