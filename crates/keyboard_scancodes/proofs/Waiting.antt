-- The bytes that wait, by their places: how many, the last of them, and what the places of a list's first 16 hold.
use mathlib.Core.Path.{◌≡◌, refl, ap, ◌∙◌}
use mathlib.Core.List.{List, [], ◌∷◌, ◌++◌}
use Prim.Native.Nat.{ℕ, zero, suc, ◌≤◌}
use native.Mathlib.Nat.{min-le_left}
use native.Mathlib.Omega.{arith}
use lib.ListN.{length, take, replicate, get_or, length-append, length-take}
use lib.Seq.{length-take-le}
use Rattle.ps2_kept.specs.Kept.{kept_limit, kept_of}
use Rattle.ps2_kept.proofs.Added.{kept_first}
use Rattle.keyboard_scancodes.specs.Waiting.{bytes_from, waiting_bytes, waiting_of}

pub length_bytes : (ps : List ℕ) (k n : ℕ) → length (bytes_from ps k n) ≡ n
unfolding bytes_from
length_bytes ps k zero = refl
length_bytes ps k (suc n) = ap suc (length_bytes ps (suc k) n)

-- the first n bytes of a list that has them
bytes_behind : (x : ℕ) (ps : List ℕ) (k n : ℕ) → bytes_from (x ∷ ps) (suc k) n ≡ bytes_from ps k n
unfolding bytes_from
bytes_behind x ps k zero = refl
bytes_behind x ps k (suc n) = ap (λ (l : List ℕ). get_or ps k 0 ∷ l) (bytes_behind x ps (suc k) n)

bytes_take : (ps : List ℕ) (n : ℕ) → n ≤ length ps → bytes_from ps 0 n ≡ take n ps
unfolding bytes_from
bytes_take ps zero h = refl
bytes_take [] (suc n) h = absurd (omega arith)
bytes_take (x ∷ ps) (suc n) h = ap (λ (l : List ℕ). x ∷ l) (bytes_behind x ps 0 n ∙ bytes_take ps n (omega arith))

module _ (l : List ℕ) where
  -- no more than 16 wait
  pub waiting_count : (waiting_of l).count ≤ kept_limit
  waiting_count = rw (length-take 16 l) (min-le_left 16 (length l))

  places : length (kept_of l).bytes ≡ kept_limit
  places = length-take-le 16 (l ++ replicate 16 0) (omega (arith, length-append l (replicate 16 0)))

  -- and they are the list's first 16, in order
  pub waiting_of_lem : waiting_bytes (waiting_of l) ≡ take kept_limit l
  waiting_of_lem = bytes_take (kept_of l).bytes (kept_of l).count (omega (arith, places, waiting_count)) ∙ kept_first l
