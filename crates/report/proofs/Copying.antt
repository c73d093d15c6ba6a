-- Counts that are being copied to another width: up to each key they are the same numbers.
use mathlib.Core.Path.{◌≡◌, ◌∙◌}
use mathlib.Core.List.{List}
use Prim.Native.Nat.{ℕ, ◌+◌, ◌≤◌, ◌<◌}
use native.Mathlib.Decide.{ℕ_discrete}
use native.Mathlib.Omega.{arith}
use lib.ListN.{length, get_or, set, length-set}
use lib.Seq.{get_or-set_same, get_or-set_other}
use Rattle.report.specs.Keys.{key_count, for_each_key}
use Rattle.report.proofs.Keys.{keys_are}

pub record Copying (counts : List ℕ) (i : ℕ) (all : List ℕ) : Type 0 where
  pub long : length all ≡ key_count
  pub at : (k : ℕ) → k < i → get_or all k 0 ≡ get_or counts k 0

module _ {counts : List ℕ} {i : ℕ} {all : List ℕ} (c : Copying counts i all) where
  pub copying_goes : (n : ℕ) → i < key_count → n ≡ get_or counts i 0 → Copying counts (i + 1) (set all i n)
  copying_goes n h e = record { long = simp length-set c.long; at = λ k l. entry k l (ℕ_discrete k i) }
    where
      entry : (k : ℕ) → k < i + 1 → Dec (k ≡ i) → get_or (set all i n) k 0 ≡ get_or counts k 0
      entry k l (yes p) = rw p (get_or-set_same all i n 0 (rw c.long h) ∙ e)
      entry k l (no p) = get_or-set_other all i k n 0 p ∙ c.at k (omega arith)

  pub copying_ends : key_count ≤ i → all ≡ for_each_key (λ key. get_or counts key 0)
  copying_ends h = keys_are all _ c.long (λ k l. c.at k (omega arith))
