-- A number written into an output, from a place on.
use Rattle.std.specs.Prelude.{cond, List, ◌++◌, ℕ, ◌+◌, leb, length, take, drop, Result, Ok, Err}
use Rattle.exchange.specs.Answer.{Answer, gives, refuses}
use Rattle.ps2_answers.specs.Refusals.{Success, success}
use Rattle.preferences.specs.declared.numbers.OutputShort.{OutputShort}
use Rattle.preferences.specs.Coding.{coding}

-- What a call leaves: its answer, the count of bytes written, and the output.
pub record Outcome : Type 0 where
  pub end : Answer Success
  pub count : ℕ
  pub output : List ℕ

abbrev pub outcome : Answer Success → ℕ → List ℕ → Outcome
outcome end count output = record { end = end; count = count; output = output }

-- An output with some bytes from a place on; before and behind them is what was there.
abbrev pub with_bytes : List ℕ → ℕ → List ℕ → List ℕ
with_bytes out at bytes = take at out ++ bytes ++ drop (at + length bytes) out

-- "23 if the output is too short"; a refusal leaves the output untouched.
unfoldable pub number_written : ℕ → ℕ → List ℕ → Outcome
number_written n at out =
    cond (leb (at + length (coding n)) (length out))
    (outcome (gives success) (length (coding n)) (with_bytes out at (coding n)))
    (outcome (refuses 23) 0 out)

-- What the code's answer says: a refusal counts no byte as written.
abbrev pub said_written : Result ℕ OutputShort → Answer Success
said_written (Ok count) = gives success
said_written (Err short) = refuses 23

abbrev pub count_written : {Refusal : Type 0} → Result ℕ Refusal → ℕ
count_written (Ok count) = count
count_written (Err refusal) = 0
