-- What the detection's code says of a search, and of a byte.
use Rattle.std.specs.Prelude.{ℕ, Option, Some, None, Result, Ok, Err}
use Rattle.bits.specs.Table.{decode}
use Rattle.exchange.specs.Answer.{Answer, gives, refuses}
use Rattle.ps2_bytes.specs.declared.response.KeyboardType.{KeyboardType}
use Rattle.ps2_answers.specs.declared.Failure.{Failure}
use Rattle.ps2_answers.specs.Refusals.{number_of}
use Rattle.ps2_detect.specs.Detection.{second_bytes}

-- What a search found that lacked no byte: the type, or the refusal.
abbrev pub said_found : Result KeyboardType Failure → Answer KeyboardType
said_found (Ok t) = gives t
said_found (Err f) = refuses (number_of f)

-- The second byte of a keyboard's identity, after AB: 41 or C1 translated, 83 plain.
abbrev pub second_byte_read : ℕ → Option KeyboardType
second_byte_read b = decode Some None second_bytes b
