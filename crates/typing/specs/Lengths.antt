-- How many bytes keys take.
use Rattle.std.specs.Prelude.{Bool, true, false, List, [], ◌∷◌, ℕ, suc, ◌+◌, None, Some}
use Rattle.std.specs.Prelude as found
use Rattle.std.proofs.Math.Option.{Option, none, some}
use Rattle.typing.specs.Keys.{Key}

-- A key takes two bytes, with Shift four.
abbrev pub width : Bool → ℕ
width false = 2
width true = 4

unfoldable pub widths : List Key → ℕ
widths [] = 0
widths (k ∷ ks) = width k.shift + widths ks

-- How many of some keys are typed with Shift.
abbrev pub one_more : Bool → ℕ → ℕ
one_more true n = suc n
one_more false n = n

unfoldable pub with_shift : List Key → ℕ
with_shift [] = 0
with_shift (k ∷ ks) = one_more k.shift (with_shift ks)

-- What the code counts of a text, if no character lacks a key.
abbrev pub count_of : Option (List Key) → found.Option ℕ
count_of none = None
count_of (some keys) = Some (with_shift keys)
