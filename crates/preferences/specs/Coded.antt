-- What a string begins with: what the laws compare reading with.
use Rattle.std.specs.Prelude.{List, ◌++◌, ◌≡◌, ℕ, ◌<◌, length}
use Rattle.exchange.specs.Answer.{gives, refuses}
use Rattle.preferences.specs.Coding.{numbers_end, coding}
use Rattle.preferences.specs.NumberReading.{taking, read_number}

-- A string is the coding of a number, then a rest.
pub record CodedAs (n : ℕ) (rest bytes : List ℕ) : Type 0 where
  pub below : n < numbers_end
  pub is : bytes ≡ coding n ++ rest

-- It begins with a number's coding, or with none.
pub data Coded (bytes : List ℕ) : Type 0 where
  number : (n : ℕ) (rest : List ℕ) → CodedAs n rest bytes → Coded bytes
  no_number : ((n : ℕ) (rest : List ℕ) → CodedAs n rest bytes → ⊥) → Coded bytes

-- "every byte string is either the coding of a number followed by a rest, or 27"
pub record Answered (bytes : List ℕ) : Type 0 where
  pub coded : Coded bytes
  pub read : (n : ℕ) (rest : List ℕ) → CodedAs n rest bytes → read_number bytes
      ≡ gives (taking n (length (coding n)))
  pub refused : ((n : ℕ) (rest : List ℕ) → CodedAs n rest bytes → ⊥) → read_number bytes
      ≡ refuses 27
