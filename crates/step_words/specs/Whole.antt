-- All that is kept of a session in one list of numbers, and requests as numbers.
use Rattle.std.specs.Prelude.{ℕ, List, Some, None, take, drop, length, ◌≡◌, ◌≤◌, ◌<◌}
use Rattle.exchange.specs.Exchange.{number}
use Rattle.ps2_answers.specs.Refusals.{port_of}
use Rattle.questions.specs.declared.Request.TheVariants.{Read, Write}
use Rattle.step_words.specs.declared.ends.Advance.{Advance}
use Rattle.step_words.specs.declared.ends.Advance.TheVariants.{Malformed, Asks, Ends}
use Rattle.step_words.specs.declared.whole.RequestWords.{RequestWords}
use Rattle.sessions.specs.declared.Operation.{Operation}
use Rattle.step_words.specs.Arguments.{operation_in}
use Rattle.step_words.specs.Steps.{StepIn, BeginIn}

-- The first twelve numbers; the counts of what was thrown away, and its bytes; the replies.
abbrev pub fields_of : List ℕ → List ℕ
fields_of w = take 12 w

abbrev pub counts_of : List ℕ → List ℕ
counts_of w = take 4 (drop 12 w)

abbrev pub bytes_of : List ℕ → List ℕ
bytes_of w = take 16 (drop 4 (drop 12 w))

abbrev pub replies_of : List ℕ → List ℕ
replies_of w = drop 16 (drop 4 (drop 12 w))

-- A request: 1 a read, 2 a write, 0 the end. 21 where the numbers are no session that runs.
abbrev pub refusing : ℕ → RequestWords
refusing n = record { kind = 0; port = 0; byte = 0; refusal = n }

abbrev pub request_numbers : Advance → RequestWords
request_numbers Malformed = refusing 21
request_numbers (Asks (Read p)) =
    record { kind = 1; port = number (port_of p); byte = 0; refusal = 0 }
request_numbers (Asks (Write p v)) =
    record { kind = 2; port = number (port_of p); byte = v; refusal = 0 }
request_numbers (Ends n) = refusing n

-- A step and a beginning on all numbers.
abbrev pub StepAll : List ℕ → ℕ → Advance → List ℕ → Type 0
StepAll w b r l = StepIn (fields_of w) (counts_of w) (bytes_of w) (replies_of w) b r (fields_of l)
    (counts_of l) (bytes_of l) (replies_of l)

abbrev pub BeginAll : Operation → Advance → List ℕ → Type 0
BeginAll o r l = BeginIn o r (fields_of l) (counts_of l) (bytes_of l)

-- What a call on lent numbers comes to, for every number that it is passed.
pub data NextWords (w : List ℕ) (byte : ℕ) : RequestWords → List ℕ → Type 0 where
  no_byte : 256 ≤ byte → NextWords w byte (refusing 255) w
  next_too_few : byte < 256 → (length w ≡ 256 → ⊥) → NextWords w byte (refusing 21) w
  stepped : {a : Advance} {l : List ℕ} → byte < 256 → length w ≡ 256 → length l ≡ 256
      → StepAll w byte a l → NextWords w byte (request_numbers a) l

pub data BeginWords (w : List ℕ) (number argument : ℕ) : RequestWords → List ℕ → Type 0 where
  means_nothing : operation_in number argument ≡ None
      → BeginWords w number argument (refusing 255) w
  begin_too_few : {o : Operation} → operation_in number argument ≡ Some o → (length w ≡ 256 → ⊥)
      → BeginWords w number argument (refusing 21) w
  begun : {o : Operation} {a : Advance} {l : List ℕ} → operation_in number argument ≡ Some o
      → length w ≡ 256 → length l ≡ 256 → BeginAll o a l
      → BeginWords w number argument (request_numbers a) l
