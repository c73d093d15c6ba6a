-- Things that wait, each named with its side.
use Rattle.std.specs.Prelude.{cond, List, [], ◌∷◌}
use Rattle.keyboard_sides.specs.declared.Side.{Side}
use Rattle.keyboard_sides.specs.Sides.{same_side}

-- Something of a side.
pub record Sided (A : Type 0) : Type 0 where
  pub side : Side
  pub one : A

-- Things and their sides, one beside the other.
unfoldable pub named : {A : Type 0} → List Side → List A → List (Sided A)
named [] things = []
named (s ∷ sides) [] = []
named (s ∷ sides) (a ∷ things) = record { side = s; one = a } ∷ named sides things

-- Those of one side, in their order; and the sides alone.
unfoldable pub of_side : {A : Type 0} → Side → List (Sided A) → List A
of_side side [] = []
of_side side (x ∷ rest) =
    cond (same_side side x.side) (x.one ∷ of_side side rest) (of_side side rest)

unfoldable pub sides_in : {A : Type 0} → List (Sided A) → List Side
sides_in [] = []
sides_in (x ∷ rest) = x.side ∷ sides_in rest
