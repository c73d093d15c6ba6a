-- What the parts of a reading say of the whole: what private functions promise.
use Rattle.std.specs.Prelude.{Bool, true, false, cond, List, [], ◌∷◌, ◌++◌, ◌≡◌, ℕ, eqb, drop, Result, Ok, Err}
use Rattle.exchange.specs.Answer.{Answer, refuses}
use Rattle.preferences.specs.NumberReading.{read_number}
use Rattle.preferences.specs.Values.{four_values, is_repeat_byte}
use Rattle.preferences.specs.Record.{four_fields}
use Rattle.preferences.specs.declared.Fields.{Fields}
use Rattle.preferences.specs.declared.coding.ReadRefusal.{ReadRefusal}
use Rattle.preferences.specs.declared.coding.Version.{Version}
use Rattle.preferences.specs.Format.{field_count}
use Rattle.preferences.specs.Reading.{behind, asking, numbers_read, any_number, record_read, refusal_number}

-- ---- versions

abbrev pub version_number : Version → ℕ
version_number Version.One = 1
version_number Version.Two = 2

-- A number as a version; one that is none is outside its values.
abbrev pub version_read : ℕ → Result Version ReadRefusal
version_read n = cond (eqb n 1) (Ok Version.One)
    (cond (eqb n 2) (Ok Version.Two) (Err ReadRefusal.OutsideValues))

-- ---- parts

-- What a reader asks of the fifth field: whether it checks the range.
abbrev pub fifth_for : Bool → ℕ → Bool
fifth_for true = is_repeat_byte
fifth_for false = any_number

-- A number that is taken, with the place behind it, stands before
-- what is read there; one that is refused ends the reading.
abbrev pub taken_says : List ℕ → (List ℕ → Answer (List ℕ)) → Result (ℕ × ℕ) ReadRefusal
    → Answer (List ℕ)
taken_says input next (Ok t) = behind t.0 (next (drop t.1 input))
taken_says input next (Err x) = refuses (refusal_number x)

pub record Takes (input : List ℕ) (at : ℕ) (question : ℕ → Bool) (r : Result (ℕ × ℕ) ReadRefusal)
    : Type 0 where
  pub says : (next : List ℕ → Answer (List ℕ))
      → asking question next (drop at input) (read_number (drop at input)) ≡ taken_says input next r

-- Numbers before others.
abbrev pub behind_all : List ℕ → Answer (List ℕ) → Answer (List ℕ)
behind_all [] a = a
behind_all (n ∷ ns) a = behind n (behind_all ns a)

-- Version and count, then what is read behind them: the fields of the version.
abbrev pub head_says : List ℕ → (ℕ → Bool) → Result (Version × ℕ) ReadRefusal → Answer (List ℕ)
head_says input fifth (Ok h) = let v = version_number h.0 in behind_all (v ∷ field_count v ∷ [])
    (numbers_read (four_values ++ cond (eqb v 1) [] (fifth ∷ [])) (drop h.1 input))
head_says input fifth (Err x) = refuses (refusal_number x)

pub record Heads (input : List ℕ) (r : Result (Version × ℕ) ReadRefusal) : Type 0 where
  pub says : (fifth : ℕ → Bool) → record_read fifth input ≡ head_says input fifth r

-- The four fields, whatever is asked behind them.
abbrev pub four_says : List ℕ → List (ℕ → Bool) → Result (Fields × ℕ) ReadRefusal → Answer (List ℕ)
four_says input questions (Ok f) =
    behind_all (four_fields f.0) (numbers_read questions (drop f.1 input))
four_says input questions (Err x) = refuses (refusal_number x)

pub record Fours (input : List ℕ) (at : ℕ) (r : Result (Fields × ℕ) ReadRefusal) : Type 0 where
  pub says : (questions : List (ℕ → Bool)) → numbers_read (four_values ++ questions) (drop at input)
      ≡ four_says input questions r

-- Version, count and five fields: no record has more numbers.
abbrev pub numbers_most : ℕ
numbers_most = 7
