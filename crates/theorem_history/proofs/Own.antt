-- The calls of a side: one more of its own, one of the other side's, one of a side that is not at the table.
use mathlib.Core.Path.{◌≡◌, refl}
use mathlib.Core.Bool.{true, false, and-false}
use mathlib.Core.List.{List}
use mathlib.Core.Logic.{◌⊎◌, inl, inr}
use Prim.Native.Nat.{ℕ}
use Rattle.keyboard_sides.specs.declared.Side.{Side}
use Rattle.keyboard_sides.specs.Sides.{same_side}
use Rattle.keyboard_record.specs.declared.Keyboards.{Keyboards}
use Rattle.keyboard_record.specs.Record.{at_table}
use Rattle.theorem_history.specs.Past.{Past, ◌▸◌}
use Rattle.theorem_history.specs.Counted.{Call, handling, lent, own}

pub same_side_lem : (side : Side) → same_side side side ≡ true
same_side_lem Side.First = refl
same_side_lem Side.Second = refl

-- two sides are the same or different, whichever is named first
pub which_side : (t side : Side) → (t ≡ side) ⊎ ((same_side t side ≡ false) × (same_side side t ≡ false))
which_side Side.First Side.First = inl refl
which_side Side.First Side.Second = inr (refl, refl)
which_side Side.Second Side.First = inr (refl, refl)
which_side Side.Second Side.Second = inl refl

module _ (keyboards : Keyboards) (past : Past Call) (side : Side) (s l : List ℕ) where
  pub own_more : at_table keyboards side ≡ true → own keyboards side (past ▸ handling side s l) ≡ own keyboards side past ▸ lent s l
  unfolding own
  own_more h = rw (same_side_lem side, h)

  pub own_other : (t : Side) → same_side t side ≡ false → own keyboards t (past ▸ handling side s l) ≡ own keyboards t past
  unfolding own
  own_other t n = rw n

  pub own_absent : (t : Side) → at_table keyboards side ≡ false → own keyboards t (past ▸ handling side s l) ≡ own keyboards t past
  unfolding own
  own_absent t h = rw (h, and-false (same_side t side))
