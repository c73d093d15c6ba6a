-- What the laws of the conversion compare it with: why it ends and what it writes, said of bytes
-- with nothing of codes; one conversion behind another.
use Rattle.std.specs.Prelude.{true, false, List, [], ◌∷◌, ◌++◌, ◌≡◌, ℕ, ◌+◌, ◌-◌, ◌≤◌, length}
use Rattle.std.proofs.Math.Option.{none, some}
use Rattle.exchange.specs.Answer.{Answer, gives, refuses}
use Rattle.ps2_answers.specs.Refusals.{Success, success}
use Rattle.scancode_set2.specs.Table.{entry_of}
use Rattle.scancode_set2.specs.Codes.{is_prefix, Code}
use Rattle.scancode_set2.specs.Convert.{with_top_bit, becomes, Converted}

-- A stream that begins with what becomes a byte: E0 or E1,
-- a code with an entry, or F0 and a code with an entry.
pub data Convertible : List ℕ → Type 0 where
  a_prefix : {b : ℕ} {stream : List ℕ} → is_prefix b ≡ true → Convertible (b ∷ stream)
  a_press : {c e : ℕ} {stream : List ℕ} → entry_of c ≡ some e → Convertible (c ∷ stream)
  a_release : {c e : ℕ} {stream : List ℕ} → entry_of c ≡ some e → Convertible (0xF0 ∷ c ∷ stream)

-- Why nothing more is converted of what is left of a stream, into so much room: it is used up; "22
-- if a code has no entry in the table, or F0 is followed by F0, E0 or E1"; "23 if a byte to be
-- written finds the output full"; "24 if the stream ends after F0".
pub data Stop : List ℕ → ℕ → Answer Success → Type 0 where
  used_up : {room : ℕ} → Stop [] room (gives success)
  no_entry : {c room : ℕ} {stream : List ℕ} → (c ≡ 0xF0 → ⊥) → is_prefix c ≡ false
      → entry_of c ≡ none → Stop (c ∷ stream) room (refuses 22)
  no_entry_after : {c room : ℕ} {stream : List ℕ} → entry_of c ≡ none
      → Stop (0xF0 ∷ c ∷ stream) room (refuses 22)
  full : {stream : List ℕ} → Convertible stream → Stop stream 0 (refuses 23)
  ends_after : {room : ℕ} → Stop (0xF0 ∷ []) room (refuses 24)

-- A byte of the output: E0 or E1 passed through, or a table entry, with the top bit or without.
pub data Written : ℕ → Type 0 where
  passed : {b : ℕ} → is_prefix b ≡ true → Written b
  entered : {b : ℕ} (c : ℕ) → entry_of c ≡ some b → Written b
  released : {e : ℕ} (c : ℕ) → entry_of c ≡ some e → Written (with_top_bit e)

-- Each code became the byte that stands in its place.
pub data Became : List Code → List ℕ → Type 0 where
  no_codes : Became [] []
  one_code : {c : Code} {b : ℕ} {codes : List Code} {bytes : List ℕ} → becomes c ≡ gives b
      → Became codes bytes → Became (c ∷ codes) (b ∷ bytes)

-- A conversion that was done: all of it, with nothing refused.
abbrev pub whole : Converted → Converted
whole c = record { end = gives success; used = c.used; bytes = c.bytes }

-- A conversion behind one that used so much and wrote these bytes: both counts go on.
abbrev pub behind : ℕ → List ℕ → Converted → Converted
behind used bytes c = record { end = c.end; used = used + c.used; bytes = bytes ++ c.bytes }

-- One conversion, then, if it was done, another into the room that it left.
abbrev pub on_done : Answer Success → Converted → Converted → Converted
on_done (gives a) c more = behind c.used c.bytes more
on_done (refuses n) c more = c

abbrev pub then_into : Converted → (ℕ → Converted) → ℕ → Converted
then_into c next room = on_done c.end c (next (room - length c.bytes))

-- How much is used and written: no more than there is, and no more bytes written than used.
pub record Lengths (stream : List ℕ) (room : ℕ) (c : Converted) : Type 0 where
  pub used_le : c.used ≤ length stream
  pub written_le_used : length c.bytes ≤ c.used
  pub written_le_room : length c.bytes ≤ room
