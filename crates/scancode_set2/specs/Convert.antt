-- The conversion of a set 2 stream to set 1.
use Rattle.std.specs.Prelude.{true, cond, List, [], ◌∷◌, ◌++◌, ◌≡◌, ℕ, zero, suc, ◌+◌, ◌<◌, length, drop, get_or, Result, Ok, Err}
use Rattle.std.proofs.Math.Option.{Option, none, some}
use Rattle.bits.specs.Bits.{put_bit}
use Rattle.exchange.specs.Answer.{Answer, gives, refuses}
use Rattle.ps2_answers.specs.Refusals.{Success, success}
use Rattle.scancode_set2.specs.declared.ConvertRefusal.{ConvertRefusal}
use Rattle.scancode_set2.specs.declared.ConvertRefusal.TheVariants.{NoEntry, OutputFull, EndsAfterF0}
use Rattle.scancode_set2.specs.Table.{entry_of}
use Rattle.scancode_set2.specs.Codes.{is_prefix, Code, alone, after_f0, ends_after_f0, codes, width}

-- The byte with its top bit set: in set 1, the release of the key that the byte presses.
abbrev pub with_top_bit : ℕ → ℕ
with_top_bit b = put_bit 7 true b

-- What f makes of a code's entry; "22 if a code has no entry in the table".
abbrev pub by_entry : (ℕ → ℕ) → Option ℕ → Answer ℕ
by_entry f (some e) = gives (f e)
by_entry f none = refuses 22

-- The byte of set 1 that a code becomes, or the number of what it lacks. "E0 and E1 pass through."
-- "F0 is dropped and sets the top bit of the translated code after it"; F0, E0 and E1 have no
-- entry, so "22 if .. F0 is followed by F0, E0 or E1". "24 if the stream ends after F0."
unfoldable pub becomes : Code → Answer ℕ
becomes (alone c) = cond (is_prefix c) (gives c) (by_entry (λ e. e) (entry_of c))
becomes (after_f0 c) = by_entry with_top_bit (entry_of c)
becomes ends_after_f0 = refuses 24

-- The byte as a number: 00, which no code becomes, where there is none.
abbrev pub or_no_byte : Answer ℕ → ℕ
or_no_byte (gives b) = b
or_no_byte (refuses n) = 0x00

-- A list of numbers that has, for each of n codes from one
-- on, the byte that it becomes by itself, or after F0.
pub record Tabulates (as_code : ℕ → Code) (first n : ℕ) (table : List ℕ) : Type 0 where
  pub at : (i : ℕ) → i < n → get_or table i 0 ≡ or_no_byte (becomes (as_code (first + i)))

-- What a conversion comes to: how it ended, the bytes of
-- the stream that it used, and the bytes that it wrote.
pub record Converted : Type 0 where
  pub end : Answer Success
  pub used : ℕ
  pub bytes : List ℕ

-- A conversion that ends with nothing used or written.
abbrev pub ends : Answer Success → Converted
ends a = record { end = a; used = 0; bytes = [] }

-- A conversion that uses a code and writes its byte, and then goes on.
abbrev pub writes : Code → ℕ → Converted → Converted
writes c b rest = record { end = rest.end; used = width c + rest.used; bytes = b ∷ rest.bytes }

-- One code, then the others: "a refused code, and an F0 before it or at the end, are not counted as
-- used". "23 if a byte to be written finds the output full": only a code that becomes a byte is
-- asked, so that "22 is asked before 23".
abbrev pub convert_code : Code → Answer ℕ → (ℕ → Converted) → ℕ → Converted
convert_code c (refuses n) others room = ends (refuses n)
convert_code c (gives b) others zero = ends (refuses 23)
convert_code c (gives b) others (suc room) = writes c b (others room)

-- The conversion of some codes into an output that has room for so many bytes.
unfoldable pub convert_codes : List Code → ℕ → Converted
convert_codes [] room = ends (gives success)
convert_codes (c ∷ others) room =
    convert_code c (becomes c) (λ room. convert_codes others room) room

-- The conversion of a stream.
abbrev pub convert_stream : List ℕ → ℕ → Converted
convert_stream stream room = convert_codes (codes stream) room

-- What a call leaves: its answer, both counts, and the output.
pub record Outcome : Type 0 where
  pub end : Answer Success
  pub used : ℕ
  pub count : ℕ
  pub output : List ℕ

abbrev pub outcome : Answer Success → ℕ → ℕ → List ℕ → Outcome
outcome end used count output = record { end = end; used = used; count = count; output = output }

-- "What was converted before a refusal stays in the output, with both counts"; "the count written
-- to each output is answered, its rest untouched".
unfoldable pub leaves : Converted → List ℕ → Outcome
leaves c out = outcome c.end c.used (length c.bytes) (c.bytes ++ drop (length c.bytes) out)

-- What converting a stream into an output leaves.
abbrev pub converted : List ℕ → List ℕ → Outcome
converted stream out = leaves (convert_stream stream (length out)) out

-- The number of a refusal.
abbrev pub refusal_number : ConvertRefusal → ℕ
refusal_number NoEntry = 22
refusal_number OutputFull = 23
refusal_number EndsAfterF0 = 24

-- What the code's answer says.
abbrev pub said_converted : Result (Unit {0}) ConvertRefusal → Answer Success
said_converted (Ok u) = gives success
said_converted (Err r) = refuses (refusal_number r)
