-- The sides of the events that wait: the bits of a number, the lowest first, each a side.
use Rattle.std.specs.Prelude.{Bool, true, false, cond, List, [], ◌∷◌, ℕ, zero, suc, ◌+◌, ◌*◌, ◌/◌, ◌%◌, ◌^◌, ltb}
use Rattle.bits.specs.Bits.{odd, weigh, put_bit}
use Rattle.keyboard_sides.specs.declared.Side.{Side}
use Rattle.keyboard_sides.specs.declared.Sides.{Sides}

-- A bit that is set says the second side.
abbrev pub side_of : Bool → Side
side_of true = Side.Second
side_of false = Side.First

abbrev pub is_second : Side → Bool
is_second Side.First = false
is_second Side.Second = true

-- The sides that the n lowest bits of a number say, the lowest first.
unfoldable pub bit_sides : ℕ → ℕ → List Side
bit_sides zero x = []
bit_sides (suc n) x = side_of (odd x) ∷ bit_sides n (x / 2)

-- The two words as one number, and the words of a number.
abbrev pub word : ℕ
word = 2 ^ 64

abbrev pub number_of : Sides → ℕ
number_of s = s.high * word + s.low

abbrev pub words_of : ℕ → Sides
words_of x = record { low = x % word; high = x / word }

-- The sides of the first n events that wait, the oldest first.
abbrev pub sides_of : Sides → ℕ → List Side
sides_of s n = bit_sides n (number_of s)

-- Whether two sides are the same, and how many of some sides are a given one.
abbrev pub same_side : Side → Side → Bool
same_side Side.First Side.First = true
same_side Side.First Side.Second = false
same_side Side.Second Side.First = false
same_side Side.Second Side.Second = true

unfoldable pub count_of : Side → List Side → ℕ
count_of side [] = 0
count_of side (s ∷ rest) = weigh (same_side side s) + count_of side rest

-- No event's sides; the side of the oldest event; the sides without it; and those of n events with
-- one more behind them, if there is a bit for it.
abbrev pub no_sides : Sides
no_sides = record { low = 0; high = 0 }

abbrev pub oldest_side : Sides → Side
oldest_side s = side_of (odd s.low)

unfoldable pub without_oldest_side : Sides → Sides
without_oldest_side s = words_of (number_of s / 2)

unfoldable pub with_side : Side → ℕ → Sides → Sides
with_side side n s = cond (ltb n 128) (words_of (put_bit n (is_second side) (number_of s))) s
