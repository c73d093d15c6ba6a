-- Numbers for each key, in a list.
use Rattle.std.specs.Prelude.{List, [], ◌∷◌, ℕ, zero, suc}

-- The keycodes of events are 00 to 5D.
abbrev pub key_count : ℕ
key_count = 94

-- A function's values at n numbers in a row, from the given one on.
unfoldable pub values_from : ℕ → ℕ → (ℕ → ℕ) → List ℕ
values_from from zero f = []
values_from from (suc n) f = f from ∷ values_from (suc from) n f

-- A number for each keycode, in their order.
abbrev pub for_each_key : (ℕ → ℕ) → List ℕ
for_each_key f = values_from 0 key_count f
