-- A record read from a string of bytes.
use Rattle.std.specs.Prelude.{Bool, true, cond, ◌||◌, List, [], ◌∷◌, ◌++◌, ℕ, eqb, take, drop, Result, Ok, Err}
use Rattle.exchange.specs.Answer.{Answer, gives, refuses}
use Rattle.preferences.specs.declared.numbers.Number.{Number}
use Rattle.preferences.specs.NumberReading.{read_number}
use Rattle.preferences.specs.Values.{four_values, is_repeat_byte}
use Rattle.preferences.specs.Record.{four_fields}
use Rattle.preferences.specs.declared.Fields.{Fields}
use Rattle.preferences.specs.declared.Preferences.{Preferences}
use Rattle.preferences.specs.declared.coding.ReadRefusal.{ReadRefusal}
use Rattle.preferences.specs.Format.{field_count, numbers_of}

-- ---- numbers, each with its question

-- A number before others, if they are given.
abbrev pub behind : ℕ → Answer (List ℕ) → Answer (List ℕ)
behind n (gives ns) = gives (n ∷ ns)
behind n (refuses k) = refuses k

-- "27 before 28 at each number": its form, then its value, then what follows.
abbrev pub asking : (ℕ → Bool) → (List ℕ → Answer (List ℕ)) → List ℕ → Answer Number
    → Answer (List ℕ)
asking question next bytes (refuses k) = refuses k
asking question next bytes (gives r) =
    cond (question r.value) (behind r.value (next (drop r.count bytes))) (refuses 28)

-- "29 if bytes follow the last field"
abbrev pub at_end : List ℕ → Answer (List ℕ)
at_end [] = gives []
at_end (b ∷ bytes) = refuses 29

-- "They are asked in reading order": the numbers of a string, a question to each.
unfoldable pub numbers_read : List (ℕ → Bool) → List ℕ → Answer (List ℕ)
numbers_read [] bytes = at_end bytes
numbers_read (question ∷ questions) bytes =
    asking question (numbers_read questions) bytes (read_number bytes)

-- ---- the numbers of a record

-- "28 if the version is not 1 or 2"
abbrev pub is_version : ℕ → Bool
is_version n = eqb n 1 || eqb n 2

-- "The count is not 4 or 5 as the version says"
abbrev pub is_count : ℕ → ℕ → Bool
is_count version n = eqb n (field_count version)

-- The questions of a record of a version, with that of the fifth field, which only version 2 has.
abbrev pub questions_of : (ℕ → Bool) → ℕ → List (ℕ → Bool)
questions_of fifth version =
    is_version ∷ is_count version ∷ four_values ++ cond (eqb version 1) [] (fifth ∷ [])

-- A record's version is its first number, if that is well formed.
abbrev pub version_in : Answer Number → ℕ
version_in (gives r) = r.value
version_in (refuses k) = 0

unfoldable pub record_read : (ℕ → Bool) → List ℕ → Answer (List ℕ)
record_read fifth bytes = numbers_read (questions_of fifth (version_in (read_number bytes))) bytes

-- ---- the two readers

-- "From version 2 the version 1 reader shows the four fields
-- as written, checking the fifth's form but not its range."
abbrev pub any_number : ℕ → Bool
any_number n = true

-- The four fields behind version and count.
abbrev pub four_of : Answer (List ℕ) → Answer (List ℕ)
four_of (gives ns) = gives (take 4 (drop 2 ns))
four_of (refuses k) = refuses k

abbrev pub read1 : List ℕ → Answer (List ℕ)
read1 bytes = four_of (record_read any_number bytes)

-- "The version 2 reader takes both": it gives all numbers, the version first.
abbrev pub read2 : List ℕ → Answer (List ℕ)
read2 bytes = record_read is_repeat_byte bytes

-- ---- what the code's answers say

-- The number of each refusal.
abbrev pub refusal_number : ReadRefusal → ℕ
refusal_number ReadRefusal.Malformed = 27
refusal_number ReadRefusal.OutsideValues = 28
refusal_number ReadRefusal.BytesFollow = 29

-- "Refused reading yields no field."
abbrev pub said_read1 : Result Fields ReadRefusal → Answer (List ℕ)
said_read1 (Ok four) = gives (four_fields four)
said_read1 (Err x) = refuses (refusal_number x)

abbrev pub said_read2 : Result Preferences ReadRefusal → Answer (List ℕ)
said_read2 (Ok p) = gives (numbers_of p)
said_read2 (Err x) = refuses (refusal_number x)
