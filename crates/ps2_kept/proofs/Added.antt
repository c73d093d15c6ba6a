-- One byte more: the code's places and counts say what the list of all thrown bytes says.
use Prim.Native.Nat.{ℕ, zero, suc, ◌+◌, ◌-◌, ◌≤◌, ◌<◌}
use native.Mathlib.Omega.{arith}
use mathlib.Core.Bool.{Bool, true, false}
use mathlib.Core.List.{List, [], ◌∷◌, ◌++◌, append_assoc, append-nil}
use mathlib.Core.Path.{◌≡◌, refl, sym, ap, ◌∙◌}
use borrow.Author.Tests.{lt-ltb, le-ltb, ltb-true, ltb-false}
use lib.Dec.{ltb}
use lib.ListN.{length, take, set, replicate, length-append}
use lib.Seq.{take_all, take-append-le, length-take-le}
use Rattle.ps2_kept.specs.declared.KeptBytes.{KeptBytes}
use Rattle.ps2_kept.specs.Kept.{kept_limit, kept_of}
use Rattle.ps2_kept.specs.Added.{others_limit, added, added_all}

same_kept : {x y : List ℕ} {c d m n : ℕ} → x ≡ y → c ≡ d → m ≡ n
    → ◌≡◌ {A = KeptBytes} (record { bytes = x; count = c; others = m }) (record { bytes = y; count = d; others = n })
same_kept p q r = cc

-- ---- a place is free: the byte goes into the first

take_zeros : (n m : ℕ) → n ≤ m → ◌≡◌ {A = List ℕ} (take n (replicate m 0)) (replicate n 0)
take_zeros zero m h = refl
take_zeros (suc n) zero h = absurd (omega arith)
take_zeros (suc n) (suc m) h = ap (λ (l : List ℕ). 0 ∷ l) (take_zeros n m (omega arith))

set_padded : (l : List ℕ) (b n m : ℕ) → length l < n → n ≤ m → take n ((l ++ (b ∷ [])) ++ replicate m 0) ≡ set (take n (l ++ replicate m 0)) (length l) b
set_padded l b zero m h k = absurd (omega arith)
set_padded l b (suc n) zero h k = absurd (omega arith)
set_padded [] b (suc n) (suc m) h k = ap (λ (l : List ℕ). b ∷ l) (take_zeros n (suc m) (omega arith) ∙ sym (take_zeros n m (omega arith)))
set_padded (x ∷ l) b (suc n) (suc m) h k = ap (λ (l : List ℕ). x ∷ l) (set_padded l b n (suc m) (omega arith) (omega arith))

one_more : (l : List ℕ) (b : ℕ) → length (l ++ (b ∷ [])) ≡ length l + 1
one_more l b = length-append l (b ∷ [])

added_free : (l : List ℕ) (b : ℕ) → length l < kept_limit → kept_of (l ++ (b ∷ [])) ≡ added (kept_of l) b
unfolding added
added_free l b h =
    let a : take 16 l ≡ l = take_all 16 l (omega arith) in
    let a₂ : take 16 (l ++ (b ∷ [])) ≡ l ++ (b ∷ []) = take_all 16 (l ++ (b ∷ [])) (omega (arith, one_more l b)) in
    rw (a, a₂, lt-ltb (length l) 16 h) (same_kept (set_padded l b 16 16 h (omega arith)) (one_more l b) (omega (arith, one_more l b)))

-- ---- none is: it is counted

added_full : (l : List ℕ) (b : ℕ) → kept_limit ≤ length l → length l < others_limit → kept_of (l ++ (b ∷ [])) ≡ added (kept_of l) b
unfolding added
added_full l b h m =
    let a : take 16 (l ++ (b ∷ [])) ≡ take 16 l = take-append-le 16 l (b ∷ []) h in
    let p : take 16 (l ++ replicate 16 0) ≡ take 16 l = take-append-le 16 l (replicate 16 0) h in
    let q : take 16 ((l ++ (b ∷ [])) ++ replicate 16 0) ≡ take 16 l = take-append-le 16 (l ++ (b ∷ [])) (replicate 16 0) (omega (arith, one_more l b)) ∙ a in
    let n : length (take 16 l) ≡ 16 = length-take-le 16 l h in
    rw (le-ltb (length (take 16 l)) 16 (omega arith), lt-ltb (length l - 16) others_limit (omega arith)) (same_kept (q ∙ sym p) (ap length a) (omega (arith, one_more l b)))

pub kept_one : (l : List ℕ) (b : ℕ) → length l < others_limit → kept_of (l ++ (b ∷ [])) ≡ added (kept_of l) b
kept_one l b m = on (ltb (length l) kept_limit) refl
  where
    on : (free : Bool) → ltb (length l) kept_limit ≡ free → kept_of (l ++ (b ∷ [])) ≡ added (kept_of l) b
    on true q = added_free l b (ltb-true _ _ q)
    on false q = added_full l b (ltb-false _ _ q) m

-- ---- several more

pub added_last : (k : KeptBytes) (l : List ℕ) (b : ℕ) → added_all k (l ++ (b ∷ [])) ≡ added (added_all k l) b
unfolding added_all
added_last k [] b = refl
added_last k (x ∷ l) b = added_last (added k x) l b

pub added_all_lem : (l m : List ℕ) → length l + length m ≤ others_limit → added_all (kept_of l) m ≡ kept_of (l ++ m)
unfolding added_all
added_all_lem l [] h = ap (λ x. kept_of x) (sym (append-nil l))
added_all_lem l (b ∷ m) h =
    rw (← kept_one l b (omega arith))
    (added_all_lem (l ++ (b ∷ [])) m (omega (arith, one_more l b)) ∙ ap (λ x. kept_of x) (append_assoc l (b ∷ []) m))

-- ---- what the kept bytes are: the list's first 16

kept_front : (n : ℕ) (l z : List ℕ) → take (length (take n l)) (take n (l ++ z)) ≡ take n l
kept_front zero l z = refl
kept_front (suc n) [] z = refl
kept_front (suc n) (b ∷ l) z = ap (λ (x : List ℕ). b ∷ x) (kept_front n l z)

pub kept_first : (l : List ℕ) → take (kept_of l).count (kept_of l).bytes ≡ take kept_limit l
kept_first l = kept_front 16 l (replicate 16 0)
