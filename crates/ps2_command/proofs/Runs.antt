-- What closed runs are written with.
use Prim.Native.Nat.{ℕ}
use mathlib.Core.List.{List, [], ◌∷◌}
use Rattle.exchange.specs.Repeat.{times}

-- A log with room for n pairs.
abbrev pub room : ℕ → List ℕ
room n = times n (0 ∷ 0 ∷ [])

-- A byte accepted by the first attempt, at the first poll.
abbrev pub fa : List ℕ
fa = 0x00 ∷ 0x01 ∷ 0xFA ∷ []
