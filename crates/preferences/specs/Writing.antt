-- A record written into an output.
use Rattle.std.specs.Prelude.{cond, List, ◌++◌, ℕ, leb, length, drop, Result, Ok, Err}
use Rattle.exchange.specs.Answer.{Answer, gives, refuses}
use Rattle.ps2_answers.specs.Refusals.{Success, success}
use Rattle.preferences.specs.NumberWriting.{Outcome, outcome}
use Rattle.preferences.specs.declared.Preferences.{Preferences}
use Rattle.preferences.specs.Record.{within_values}
use Rattle.preferences.specs.declared.coding.WriteRefusal.{WriteRefusal}
use Rattle.preferences.specs.Format.{record_bytes}

-- "It gives 28, then 23 if the output is too short": the bytes of a record, or why they are
-- refused, with so much room.
abbrev pub fitting : ℕ → List ℕ → Answer (List ℕ)
fitting room bytes = cond (leb (length bytes) room) (gives bytes) (refuses 23)

unfoldable pub written : ℕ → Preferences → Answer (List ℕ)
written room p = cond (within_values p) (fitting room (record_bytes p)) (refuses 28)

-- The bytes, then what was there; "a refused writer leaves its output untouched".
abbrev pub leaves : List ℕ → Answer (List ℕ) → Outcome
leaves out (gives bytes) = outcome (gives success) (length bytes) (bytes ++ drop (length bytes) out)
leaves out (refuses k) = outcome (refuses k) 0 out

-- The number of each refusal.
abbrev pub write_refusal_number : WriteRefusal → ℕ
write_refusal_number WriteRefusal.OutsideValues = 28
write_refusal_number WriteRefusal.OutputShort = 23

-- What the code's answer says.
abbrev pub said_written : Result ℕ WriteRefusal → Answer Success
said_written (Ok count) = gives success
said_written (Err x) = refuses (write_refusal_number x)
