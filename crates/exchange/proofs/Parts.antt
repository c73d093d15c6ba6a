-- Parts of a slice as Rattle hands them on and takes them back, and the pairs at a log's start.
use Prim.Native.Nat.{ℕ, suc, ◌+◌, ◌*◌, ◌-◌, ◌≤◌, ◌<◌}
use native.Mathlib.Nat.{le_of_eq}
use native.Mathlib.Numerals.{add-one, add-two}
use native.Mathlib.Omega.{arith}
use mathlib.Core.List.{List, [], ◌∷◌, ◌++◌, append-nil, append_assoc}
use mathlib.Core.Path.{◌≡◌, ◌∙◌}
use lib.ListN.{length, take, drop, set, length-set, length-drop, drop_of_length-le}
use lib.Seq.{take_all, length-take-le, take-append-add, drop-append-add, take-suc-set, drop-set-lt, drop-drop}
use Rattle.exchange.specs.Parts.{part, restored}

-- two bytes of the log for each pair
pub twice_suc : (n : ℕ) → 2 * suc n ≡ suc (suc (2 * n))
twice_suc n = omega arith

-- a part up to the end is all that lies behind its start
pub part_drop : (k : ℕ) (l : List ℕ) → part k l ≡ drop k l
part_drop k l = take_all (length l - k) (drop k l) (le_of_eq (length-drop k l))

-- nothing lies behind such a part
pub restored_append : (k : ℕ) (l m : List ℕ) → restored k l m ≡ take k l ++ m
restored_append k l m =
    let z : drop (length l - k) (drop k l) ≡ [] = drop_of_length-le (drop k l) (le_of_eq (length-drop k l)) in
    rw (z, append-nil)

-- the first pairs of a log, and what lies behind them, where w pairs stand before m
module _ (w v : ℕ) (l m : List ℕ) (h : 2 * w ≤ length l) where
  sum_twice : 2 * (w + v) ≡ length (take (2 * w) l) + 2 * v
  sum_twice = omega (arith, length-take-le (2 * w) l h)

  pub take_pairs : take (2 * (w + v)) (take (2 * w) l ++ m) ≡ take (2 * w) l ++ take (2 * v) m
  take_pairs = rw sum_twice (take-append-add (take (2 * w) l) m (2 * v))

  pub drop_pairs : drop (2 * (w + v)) (take (2 * w) l ++ m) ≡ drop (2 * v) m
  drop_pairs = rw sum_twice (drop-append-add (take (2 * w) l) m (2 * v))

-- a pair stored at w: the pairs up to it, and what lies behind it
module _ (w p v : ℕ) (l : List ℕ) (h : 2 * w + 1 < length l) where
  twice_next : 2 * (w + 1) ≡ suc (suc (2 * w))
  twice_next = omega arith

  pub take_stored : take (2 * (w + 1)) (set (set l (2 * w) p) (2 * w + 1) v) ≡ take (2 * w) l ++ (p ∷ v ∷ [])
  take_stored =
      let a : 2 * w < length l = omega arith in
      let b : suc (2 * w) < length (set l (2 * w) p) = simp length-set (omega arith) in
      rw (twice_next, add-one (2 * w), take-suc-set (set l (2 * w) p) (suc (2 * w)) v b, take-suc-set l (2 * w) p a, append_assoc)

  pub drop_stored : drop (2 * (w + 1)) (set (set l (2 * w) p) (2 * w + 1) v) ≡ drop 2 (drop (2 * w) l)
  drop_stored =
      drop-set-lt (2 * (w + 1)) (set l (2 * w) p) (2 * w + 1) v (omega arith) ∙ drop-set-lt (2 * (w + 1)) l (2 * w) p (omega arith)
      ∙ rw (drop-drop 2 (2 * w) l, twice_next, add-two)
