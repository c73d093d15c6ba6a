-- Which numbers fit a record's fields, so that the record
-- that they stand for can be read out of them.
use Rattle.std.specs.Prelude.{Bool, true, false, cond, ◌&&◌, ◌||◌, List, ◌≡◌, ℕ, ◌+◌, eqb, ltb, get_or, Option as Maybe, Some, None}
use Rattle.keyboard_record.specs.declared.Table.{Table}
use Rattle.handler_words.specs.Layout.{first_at, second_at, keyboards_at, profile_at}
use Rattle.handler_words.specs.Words.{byte_limit, flags_limit, keyboards_of, profile_of}

-- Those of a keyboard: a prefix that is off or on, flags of 16 bits, and a count of 8.
unfoldable pub holds_keyboard : ℕ → List ℕ → Bool
holds_keyboard at ws = ltb (get_or ws at 0) 2
    && (ltb (get_or ws (at + 1) 0) flags_limit && ltb (get_or ws (at + 2) 0) byte_limit)

-- Those of the table: one keyboard or two, without a profile or with it.
unfoldable pub holds_table : List ℕ → Bool
holds_table ws = ltb (get_or ws profile_at 0) 2
    && (eqb (get_or ws keyboards_at 0) 1 || eqb (get_or ws keyboards_at 0) 2)

abbrev pub table_in : List ℕ → Table
table_in ws = record {
  keyboards = keyboards_of (get_or ws keyboards_at 0);
  profile = profile_of (get_or ws profile_at 0);
}

-- Those of the second side, if it is at the table.
unfoldable pub holds_second : List ℕ → Bool
holds_second ws = cond (eqb (get_or ws keyboards_at 0) 2) (holds_keyboard second_at ws) true

-- All of a record's. Start, count and sides have 64 bits, and a place is read from any number.
unfoldable pub holds_record : List ℕ → Bool
holds_record ws = holds_keyboard first_at ws && (holds_table ws && holds_second ws)

-- A number below a limit, if it is.
abbrev pub below : ℕ → ℕ → Maybe ℕ
below limit n = cond (ltb n limit) (Some n) None

-- What is read where the numbers fit, and that nothing is where they don't.
abbrev pub Reads : {A : Type 0} → Bool → A → Maybe A → Type 0
Reads holds value (Some x) = (holds ≡ true) × (x ≡ value)
Reads holds value None = holds ≡ false
