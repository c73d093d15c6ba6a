-- A set 2 stream, code by code.
use Rattle.std.specs.Prelude.{Bool, cond, ◌||◌, List, [], ◌∷◌, ℕ, eqb}

-- F0 stands before the code of a key that is released.
abbrev pub break_byte : ℕ
break_byte = 0xF0

abbrev pub is_break : ℕ → Bool
is_break b = eqb b break_byte

-- The two prefixes of set 2, which set 1 has too.
abbrev pub is_prefix : ℕ → Bool
is_prefix b = eqb b 0xE0 || eqb b 0xE1

-- What stands in a stream at a code's place: a byte by itself; F0 and the byte after it; or F0
-- alone, where the stream ends after it.
pub data Code : Type 0 where
  alone : ℕ → Code
  after_f0 : ℕ → Code
  ends_after_f0 : Code

-- The codes of a stream, in order. F0 belongs to the byte after it, whatever that is.
unfoldable pub codes : List ℕ → List Code
codes [] = []
codes (b ∷ []) = cond (is_break b) (ends_after_f0 ∷ []) (alone b ∷ [])
codes (b ∷ c ∷ stream) =
    cond (is_break b) (after_f0 c ∷ codes stream) (alone b ∷ codes (c ∷ stream))

-- How many bytes of the stream a code has.
abbrev pub width : Code → ℕ
width (alone c) = 1
width (after_f0 c) = 2
width ends_after_f0 = 1
