-- Texts as bytes of ASCII: words and numbers.
use Rattle.std.specs.Prelude.{cond, List, [], ◌∷◌, ◌++◌, ℕ, zero, suc, ◌+◌, ◌-◌, ◌/◌, ◌%◌, ltb}
use Prim.Native.Char.{code}
use Prim.Native.String.{String}

-- The bytes of a text.
abbrev pub ascii : String → List ℕ
ascii String.[] = []
ascii (String.◌∷◌ c text) = code c ∷ ascii text

-- A digit: 0 to 9, then A to F.
abbrev pub digit : ℕ → ℕ
digit d = cond (ltb d 10) (code "0" + d) (code "A" + (d - 10))

-- The last k digits of n in a base, in the order in which they are written.
abbrev pub digits : ℕ → ℕ → ℕ → List ℕ
digits base zero n = []
digits base (suc k) n = digits base k (n / base) ++ (digit (n % base) ∷ [])

-- A number below 1000 in decimal: as many digits as it needs.
unfoldable pub decimal : ℕ → List ℕ
decimal n = digits 10 (cond (ltb n 10) 1 (cond (ltb n 100) 2 3)) n
