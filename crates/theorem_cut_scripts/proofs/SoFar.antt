-- A driver of real ports runs an operation on the bytes read so far, and again with one byte more.
use Prim.Native.Nat.{ℕ, suc, ◌≤◌}
use native.Mathlib.Omega.{arith}
use mathlib.Core.List.{List}
use mathlib.Core.Path.{subst}
use lib.ListN.{take}
use lib.Seq.{take-take}
use Rattle.exchange.specs.Exchange.{Exchange, play}
use Rattle.exchange.proofs.Cut.{play_cut}
use Rattle.theorem_cut_scripts.specs.SoFar.{WroteFirst, SoFar}

module _ {A : Type 0} (t : Exchange A) (log : List ℕ) where
  wrote_first : (n : ℕ) (script : List ℕ) → WroteFirst (play t (take n script) log) (play t script log)
  wrote_first n script =
      let k = play_cut t n script log in
      record { no_more = k.pairs_le; in_place = k.first_pairs }

  -- of any two cuts, not of one byte alone
  pub wrote_sooner : (n m : ℕ) (script : List ℕ) → n ≤ m → WroteFirst (play t (take n script) log) (play t (take m script) log)
  wrote_sooner n m script h = subst (λ (s : List ℕ). WroteFirst (play t s log) (play t (take m script) log)) (take-take n m script h) (wrote_first n (take m script))

  pub so_far : (n : ℕ) (script : List ℕ) → SoFar t n script log
  so_far n script =
      let k = play_cut t n script log in
      record {
        one_more = wrote_sooner n (suc n) script (omega arith);
        of_whole = wrote_first n script;
        enough = k.same;
        short = k.ends;
      }
