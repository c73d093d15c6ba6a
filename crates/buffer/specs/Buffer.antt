-- A text that is put into a buffer, as much of it as there is room for.
use Rattle.std.specs.Prelude.{cond, List, [], ◌∷◌, ◌++◌, ◌≡◌, ℕ, ◌+◌, ltb, length, set, take, drop}

-- A text was put at the start of a buffer: as many of its bytes as there was room for, which are
-- counted; behind them the buffer is as it was.
pub record Holds (text buffer : List ℕ) (count : ℕ) (after : List ℕ) : Type 0 where
  pub counted : count ≡ length (take (length buffer) text)
  pub bytes : after ≡ take (length buffer) text ++ drop count buffer

-- A buffer, and the place in it that is next.
pub record Place : Type 0 where
  pub at : ℕ
  pub bytes : List ℕ

abbrev pub place : ℕ → List ℕ → Place
place at bytes = record { at = at; bytes = bytes }

-- A byte is put at the next place, where there is one.
abbrev pub put_byte : ℕ → Place → Place
put_byte b p = cond (ltb p.at (length p.bytes)) (place (p.at + 1) (set p.bytes p.at b)) p

-- The bytes of a text, one after another.
unfoldable pub put : List ℕ → Place → Place
put [] p = p
put (b ∷ text) p = put text (put_byte b p)
