-- What the writer writes the readers read, and nothing else is accepted.
use mathlib.Core.Path.{◌≡◌, refl, sym, ap, subst, ◌∙◌}
use mathlib.Core.Bool.{Bool, true, and-eq-true_iff}
use mathlib.Core.List.{List}
use Prim.Native.Nat.{ℕ, ◌<◌}
use native.Mathlib.Omega.{arith}
use lib.ListN.{take, drop}
use borrow.Author.Tests.{leb-true}
use Rattle.exchange.specs.Answer.{Answer, gives, refuses}
use Rattle.preferences.specs.Coding.{numbers_end}
use Rattle.preferences.specs.NumberReading.{read_number}
use Rattle.preferences.specs.Values.{is_repeat_byte}
use Rattle.preferences.specs.declared.Fields.{Fields}
use Rattle.preferences.specs.declared.Preferences.{Preferences}
use Rattle.preferences.specs.declared.Preferences.TheVariants.{Version1, Version2}
use Rattle.preferences.specs.Record.{four_fields, within_values}
use Rattle.preferences.proofs.Values.{within_fifth}
use Rattle.preferences.specs.Format.{numbers_of, record_bytes}
use Rattle.preferences.specs.Reading.{version_in, questions_of, record_read, any_number, four_of, read1, read2}
use Rattle.preferences.specs.Accepted.{RecordOf, version_1, version_2, Refused, WrittenAs, ShownAs, as_1, as_2}
use Rattle.preferences.proofs.NumbersLaws.{first_refuses, refuses_first}
use Rattle.preferences.proofs.Records.{records_read, read_records}

-- ---- the version 2 reader

-- the writer's records are those that it accepts
within_record : (p : Preferences) → within_values p ≡ true → RecordOf is_repeat_byte (record_bytes p) (numbers_of p)
within_record (Version1 four) e = version_1 four e
within_record (Version2 four again) e =
    let b = (and-eq-true_iff (within_values (Version1 four)) (is_repeat_byte again)).0 (within_fifth four again ∙ e) in
    let l : again < numbers_end = omega (arith, leb-true again 127 b.1) in
    version_2 four again b.0 l b.1

-- What the writer writes the version 2 reader reads, of either version.
pub written_read2 : (p : Preferences) → within_values p ≡ true → read2 (record_bytes p) ≡ gives (numbers_of p)
written_read2 p e = records_read (within_record p e)

-- A string that it accepts is the writer's of what was read, version included.
pub read2_written : (bytes ns : List ℕ) → read2 bytes ≡ gives ns → WrittenAs bytes ns
read2_written bytes ns e = by (read_records is_repeat_byte bytes ns e)
  where
    by : {bytes ns : List ℕ} → RecordOf is_repeat_byte bytes ns → WrittenAs bytes ns
    by (version_1 four v) = record { record_of = Version1 four; within = v; string = refl; numbers = refl }
    by (version_2 four again v h q) =
        record { record_of = Version2 four again; within = sym (within_fifth four again) ∙ rw (v, q); string = refl; numbers = refl }

-- ---- the version 1 reader

-- What the writer writes of a version 1 record it reads.
pub written_read1 : (four : Fields) → within_values (Version1 four) ≡ true → read1 (record_bytes (Version1 four)) ≡ gives (four_fields four)
written_read1 four e = let r : RecordOf any_number (record_bytes (Version1 four)) (numbers_of (Version1 four)) = version_1 four e in ap four_of (records_read r)

-- Of a version 2 record it shows the four fields as written, whatever well-formed number the fifth is.
pub shown_read1 : (four : Fields) (again : ℕ) → within_values (Version1 four) ≡ true → again < numbers_end → read1 (record_bytes (Version2 four again)) ≡ gives (four_fields four)
shown_read1 four again e h =
    let r : RecordOf any_number (record_bytes (Version2 four again)) (numbers_of (Version2 four again)) = version_2 four again e h refl in ap four_of (records_read r)

-- It accepts nothing else.
pub read1_shown : (bytes fields : List ℕ) → read1 bytes ≡ gives fields → ShownAs bytes fields
read1_shown bytes fields e = by (record_read any_number bytes) refl e
  where
    shown : {bytes ns : List ℕ} → RecordOf any_number bytes ns → ShownAs bytes (take 4 (drop 2 ns))
    shown (version_1 four v) = as_1 four v
    shown (version_2 four again v h q) = as_2 four again v h

    by : (a : Answer (List ℕ)) → record_read any_number bytes ≡ a → four_of a ≡ gives fields → ShownAs bytes fields
    by (gives ns) q e = let z : take 4 (drop 2 ns) ≡ fields = cc in subst (ShownAs bytes) z (shown (read_records any_number bytes ns q))
    by (refuses k) q e = absurd (let z : ◌≡◌ {A = ℕ} 0 1 = cc in omega arith)

-- ---- both

-- The two readers agree on version 1.
pub agree_on_1 : (bytes : List ℕ) → version_in (read_number bytes) ≡ 1 → read1 bytes ≡ four_of (read2 bytes)
unfolding record_read
agree_on_1 bytes e = rw e

-- A refusal is that of the first number in the string whose form or value fails, or of the bytes that follow.
pub refused_first : (fifth : ℕ → Bool) (bytes : List ℕ) {k : ℕ} → record_read fifth bytes ≡ refuses k → Refused (questions_of fifth (version_in (read_number bytes))) bytes k
unfolding record_read
refused_first fifth bytes e = refuses_first (questions_of fifth (version_in (read_number bytes))) bytes e

pub first_refused : (fifth : ℕ → Bool) (bytes : List ℕ) {k : ℕ} → Refused (questions_of fifth (version_in (read_number bytes))) bytes k → record_read fifth bytes ≡ refuses k
unfolding record_read
first_refused fifth bytes r = first_refuses r
