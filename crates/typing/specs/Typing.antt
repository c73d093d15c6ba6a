-- A text typed: its scancodes, and what a call leaves of an output.
use Rattle.std.specs.Prelude.{Bool, true, false, cond, List, [], ◌∷◌, ◌++◌, ◌≡◌, ℕ, ◌≤◌, leb, length, drop, Result, Ok, Err}
use Rattle.std.proofs.Math.Option.{Option, none, some}
use Rattle.exchange.specs.Answer.{Answer, gives, refuses}
use Rattle.ps2_answers.specs.Refusals.{Success, success}
use Rattle.keycodes_ascii.specs.Keycode.{number_of}
use Rattle.scancode_set1.specs.Set1.{release_of}
use Rattle.typing.specs.declared.TypingRefusal.{TypingRefusal}
use Rattle.typing.specs.declared.TypingRefusal.TheVariants.{NoKey, OutputShort}
use Rattle.typing.specs.Keys.{Key, keys_of}

-- "2A and AA around a key that needs Shift": the press and the release of the left Shift.
abbrev pub around : Bool → List ℕ → List ℕ
around false codes = codes
around true codes = 0x2A ∷ codes ++ (0xAA ∷ [])

-- The scancodes of a key: "press, then release".
unfoldable pub strokes_of : Key → List ℕ
strokes_of k = around k.shift (number_of k.keycode ∷ release_of (number_of k.keycode) ∷ [])

-- The scancodes of keys that are typed one after another.
unfoldable pub scancodes : List Key → List ℕ
scancodes [] = []
scancodes (k ∷ ks) = strokes_of k ++ scancodes ks

-- "26 if the output is too short": it has room for so many bytes.
abbrev pub fitting : ℕ → List ℕ → Answer (List ℕ)
fitting room codes = cond (leb (length codes) room) (gives codes) (refuses 26)

-- "25 if a character has no key", wherever in the text; "25 is asked first".
abbrev pub typed_on : ℕ → Option (List Key) → Answer (List ℕ)
typed_on room none = refuses 25
typed_on room (some keys) = fitting room (scancodes keys)

-- The scancodes of a text, or why they are refused.
unfoldable pub typed : ℕ → List ℕ → Answer (List ℕ)
typed room text = typed_on room (keys_of text)

-- A text that is accepted, with so much room.
pub record Accepted (room : ℕ) (text : List ℕ) : Type 0 where
  pub keys : List Key
  pub has_keys : keys_of text ≡ some keys
  pub fits : length (scancodes keys) ≤ room

-- ---- what a call leaves

-- Its answer, the count of bytes written, and the output.
pub record Outcome : Type 0 where
  pub end : Answer Success
  pub count : ℕ
  pub output : List ℕ

abbrev pub outcome : Answer Success → ℕ → List ℕ → Outcome
outcome end count output = record { end = end; count = count; output = output }

-- The scancodes, then what was there; "a refusal leaves the output untouched".
abbrev pub leaves : List ℕ → Answer (List ℕ) → Outcome
leaves out (gives codes) = outcome (gives success) (length codes) (codes ++ drop (length codes) out)
leaves out (refuses n) = outcome (refuses n) 0 out

-- The number of a refusal.
abbrev pub refusal_number : TypingRefusal → ℕ
refusal_number NoKey = 25
refusal_number OutputShort = 26

-- What the code's answer says of an output: the count of
-- bytes written, or a refusal's number and no byte.
abbrev pub told : Result ℕ TypingRefusal → List ℕ → Outcome
told (Ok count) out = outcome (gives success) count out
told (Err r) out = outcome (refuses (refusal_number r)) 0 out
