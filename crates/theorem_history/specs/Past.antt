-- Things in the order in which they came.
use Rattle.std.specs.Prelude.{List, [], ◌∷◌}

infixl 5 ◌▸◌
-- A list that grows at its right end: in `past ▸ x` the
-- last that came is x, and past is all that came before it.
pub data Past (A : Type 0) : Type 0 where
  nothing : Past A
  ◌▸◌ : Past A → A → Past A

module _ {A B : Type 0} where
  -- What f makes of each.
  unfoldable pub each : (A → B) → Past A → Past B
  each f nothing = nothing
  each f (past ▸ x) = each f past ▸ f x

module _ {A : Type 0} where
  -- The things of a list, its first first, after those of past.
  unfoldable pub onto : Past A → List A → Past A
  onto past [] = past
  onto past (x ∷ xs) = onto (past ▸ x) xs
