-- Things beside their sides: one more behind both, the first off both, and how many are of a side.
use mathlib.Core.Path.{◌≡◌, refl, ap}
use mathlib.Core.Bool.{Bool, true, false, cond}
use mathlib.Core.List.{List, [], ◌∷◌, ◌++◌}
use Prim.Native.Nat.{ℕ, ◌+◌}
use native.Mathlib.Omega.{arith}
use lib.ListN.{length, drop}
use Rattle.bits.specs.Bits.{weigh}
use Rattle.keyboard_sides.specs.declared.Side.{Side}
use Rattle.keyboard_sides.specs.Sides.{same_side, count_of}
use Rattle.keyboard_sides.specs.Named.{Sided, named, of_side, sides_in}

pub named_behind : {A : Type 0} (sides : List Side) (things : List A) (s : Side) (a : A) → length sides ≡ length things
    → named (sides ++ (s ∷ [])) (things ++ (a ∷ [])) ≡ named sides things ++ (record { side = s; one = a } ∷ [])
unfolding named
named_behind [] [] s a e = refl
named_behind [] (b ∷ things) s a e = absurd (omega arith)
named_behind (t ∷ sides) [] s a e = absurd (omega arith)
named_behind {A} (t ∷ sides) (b ∷ things) s a e =
    ap (λ (l : List (Sided A)). record { side = t; one = b } ∷ l) (named_behind sides things s a (omega arith))

pub named_tail : {A : Type 0} (sides : List Side) (things : List A) → drop 1 (named sides things) ≡ named (drop 1 sides) (drop 1 things)
unfolding named
named_tail [] things = refl
named_tail (s ∷ []) [] = refl
named_tail (s ∷ t ∷ sides) [] = refl
named_tail (s ∷ sides) (a ∷ things) = refl

-- the sides of what is named are those that name it
pub sides_in-named : {A : Type 0} (sides : List Side) (things : List A) → length sides ≡ length things → sides_in (named sides things) ≡ sides
unfolding named sides_in
sides_in-named [] things e = refl
sides_in-named (s ∷ sides) [] e = absurd (omega arith)
sides_in-named (s ∷ sides) (a ∷ things) e = ap (λ (l : List Side). s ∷ l) (sides_in-named sides things (omega arith))

pub sides_in-append : {A : Type 0} (l m : List (Sided A)) → sides_in (l ++ m) ≡ sides_in l ++ sides_in m
unfolding sides_in
sides_in-append [] m = refl
sides_in-append (x ∷ l) m = ap (λ (t : List Side). x.side ∷ t) (sides_in-append l m)

pub sides_in-length : {A : Type 0} (l : List (Sided A)) → length (sides_in l) ≡ length l
unfolding sides_in
sides_in-length [] = refl
sides_in-length (x ∷ l) = omega (arith, sides_in-length l)

-- ---- those of one side
cond_append : {A : Type 0} (t : Bool) (a : A) (l m n : List A) → n ≡ l ++ m → cond t (a ∷ n) n ≡ cond t (a ∷ l) l ++ m
cond_append {A} true a l m n e = ap (λ (x : List A). a ∷ x) e
cond_append false a l m n e = e

pub of_side-append : {A : Type 0} (side : Side) (l m : List (Sided A)) → of_side side (l ++ m) ≡ of_side side l ++ of_side side m
unfolding of_side
of_side-append side [] m = refl
of_side-append side (x ∷ l) m =
    cond_append (same_side side x.side) x.one (of_side side l) (of_side side m) (of_side side (l ++ m)) (of_side-append side l m)

-- one thing is among those of its side, and not among the other's
pub of_side_same : {A : Type 0} (side : Side) (a : A) → of_side side (record { side = side; one = a } ∷ []) ≡ a ∷ []
unfolding of_side
of_side_same Side.First a = refl
of_side_same Side.Second a = refl

pub of_side_other : {A : Type 0} (side s : Side) (a : A) → same_side side s ≡ false → of_side side (record { side = s; one = a } ∷ []) ≡ []
unfolding of_side
of_side_other side s a e = rw e

-- as many things of a side as the sides have of it
length-cond : {A : Type 0} (t : Bool) (a : A) (l : List A) (n : ℕ) → length l ≡ n → length (cond t (a ∷ l) l) ≡ weigh t + n
length-cond true a l n e = omega arith
length-cond false a l n e = omega arith

pub of_side-length : {A : Type 0} (side : Side) (l : List (Sided A)) → length (of_side side l) ≡ count_of side (sides_in l)
unfolding of_side sides_in count_of
of_side-length side [] = refl
of_side-length side (x ∷ l) =
    length-cond (same_side side x.side) x.one (of_side side l) (count_of side (sides_in l)) (of_side-length side l)

pub named_count : {A : Type 0} (side : Side) (sides : List Side) (things : List A) → length sides ≡ length things
    → length (of_side side (named sides things)) ≡ count_of side sides
named_count side sides things e = rw (of_side-length side (named sides things), sides_in-named sides things e)
