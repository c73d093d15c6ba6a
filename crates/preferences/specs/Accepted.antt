-- Which strings are accepted, and which question refuses
-- the others: what the laws compare reading with.
use Rattle.std.specs.Prelude.{Bool, true, false, List, [], ◌∷◌, ◌++◌, ◌≡◌, ℕ, ◌<◌}
use Rattle.exchange.specs.Answer.{gives, refuses}
use Rattle.preferences.specs.Coding.{numbers_end, coding}
use Rattle.preferences.specs.declared.numbers.Number.{Number}
use Rattle.preferences.specs.NumberReading.{read_number}
use Rattle.preferences.specs.declared.Fields.{Fields}
use Rattle.preferences.specs.declared.Preferences.{Preferences}
use Rattle.preferences.specs.declared.Preferences.TheVariants.{Version1, Version2}
use Rattle.preferences.specs.Record.{four_fields, within_values}
use Rattle.preferences.specs.Format.{numbers_of, record_bytes}

-- The strings that are records, with their numbers: what the writer writes of a version 1 record
-- that is within the values; and the bytes of a version 2 record whose first four fields are within
-- them and whose fifth, any number, is what its question asks for.
pub data RecordOf (fifth : ℕ → Bool) : List ℕ → List ℕ → Type 0 where
  version_1 : (four : Fields) → within_values (Version1 four) ≡ true
      → RecordOf fifth (record_bytes (Version1 four)) (numbers_of (Version1 four))
  version_2 : (four : Fields) (again : ℕ) → within_values (Version1 four) ≡ true
      → again < numbers_end → fifth again ≡ true
      → RecordOf fifth (record_bytes (Version2 four again)) (numbers_of (Version2 four again))

-- The strings that are refused with a number: the first number of the string whose form or value
-- fails decides, its form before its value; bytes that follow are asked for last.
pub data Refused : List (ℕ → Bool) → List ℕ → ℕ → Type 0 where
  form : {question : ℕ → Bool} {questions : List (ℕ → Bool)} {bytes : List ℕ}
      → read_number bytes ≡ refuses 27 → Refused (question ∷ questions) bytes 27
  value : {question : ℕ → Bool} {questions : List (ℕ → Bool)} {bytes : List ℕ} (r : Number)
      → read_number bytes ≡ gives r → question r.value ≡ false
      → Refused (question ∷ questions) bytes 28
  follow : {b : ℕ} {bytes : List ℕ} → Refused [] (b ∷ bytes) 29
  later : {question : ℕ → Bool} {questions : List (ℕ → Bool)} {bytes : List ℕ} {k : ℕ} (n : ℕ)
      → n < numbers_end → question n ≡ true → Refused questions bytes k
      → Refused (question ∷ questions) (coding n ++ bytes) k

-- The writer's bytes of a record within the values, and that record's numbers: "version included".
pub record WrittenAs (bytes ns : List ℕ) : Type 0 where
  pub record_of : Preferences
  pub within : within_values record_of ≡ true
  pub string : bytes ≡ record_bytes record_of
  pub numbers : ns ≡ numbers_of record_of

-- What the version 1 reader shows four fields of: the version 1 writer's bytes, or the version 2
-- coding of the four fields with any number behind them.
pub data ShownAs : List ℕ → List ℕ → Type 0 where
  as_1 : (four : Fields) → within_values (Version1 four) ≡ true
      → ShownAs (record_bytes (Version1 four)) (four_fields four)
  as_2 : (four : Fields) (again : ℕ) → within_values (Version1 four) ≡ true → again < numbers_end
      → ShownAs (record_bytes (Version2 four again)) (four_fields four)
