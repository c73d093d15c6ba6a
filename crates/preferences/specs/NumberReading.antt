-- A number read from the start of a string of bytes.
use Rattle.std.specs.Prelude.{Bool, true, false, cond, not, ◌&&◌, List, [], ◌∷◌, ℕ, ◌+◌, ◌*◌, ◌-◌, eqb, ltb, length, Result, Ok, Err}
use Rattle.std.proofs.Math.Option.{Option, none, some}
use Rattle.exchange.specs.Answer.{Answer, gives, refuses}
use Rattle.preferences.specs.declared.numbers.Number.{Number}
use Rattle.preferences.specs.declared.numbers.Malformed.{Malformed}
use Rattle.preferences.specs.Coding.{numbers_end, groups_end}

-- ---- the groups

abbrev pub before : ℕ → Option (List ℕ) → Option (List ℕ)
before g none = none
before g (some gs) = some (g ∷ gs)

-- "Top bit set on all but the last": the groups up to the first byte below 128, if there is one.
-- What is no byte is no group.
unfoldable pub groups_of : List ℕ → Option (List ℕ)
groups_of [] = none
groups_of (b ∷ bytes) = cond (ltb b groups_end) (some (b ∷ []))
    (cond (ltb b 256) (before (b - groups_end) (groups_of bytes)) none)

-- "Lowest first": the number that groups make.
unfoldable pub value_of : List ℕ → ℕ
value_of [] = 0
value_of (g ∷ gs) = g + groups_end * value_of gs

-- "Shortest form": no last group that is 0 could be left out.
unfoldable pub ends_in_zero : List ℕ → Bool
ends_in_zero [] = false
ends_in_zero (g ∷ []) = eqb g 0
ends_in_zero (g ∷ h ∷ gs) = ends_in_zero (h ∷ gs)

unfoldable pub is_shortest : List ℕ → Bool
is_shortest [] = true
is_shortest (g ∷ gs) = not (ends_in_zero gs)

-- ---- the number

-- A number, and how many bytes it took.
abbrev pub taking : ℕ → ℕ → Number
taking value count = record { value = value; count = count }

-- "27 if a number is cut short, too large or not shortest"
abbrev pub judged : Option (List ℕ) → Answer Number
judged none = refuses 27
judged (some gs) = cond (is_shortest gs && ltb (value_of gs) numbers_end)
    (gives (taking (value_of gs) (length gs))) (refuses 27)

unfoldable pub read_number : List ℕ → Answer Number
read_number bytes = judged (groups_of bytes)

-- What the code's answer says.
abbrev pub said_number : Result Number Malformed → Answer Number
said_number (Ok number) = gives number
said_number (Err malformed) = refuses 27
