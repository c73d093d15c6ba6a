-- What the number of an argument stands for, if anything.
use Rattle.std.proofs.Math.Option.{Option, none, some}
use Rattle.std.specs.Prelude.{ℕ, Some, None}
use Rattle.std.specs.Prelude as rust
use Rattle.bits.specs.Table.{decode}
use Rattle.ps2_bytes.specs.Responses.{mouse_ids}
use Rattle.ps2_bytes.specs.declared.response.MouseId.{MouseId}

-- What is answered where an argument stands for nothing: a
-- number that no refusal of an operation has.
abbrev pub invalid_argument : ℕ
invalid_argument = 255

-- A mouse's identity is passed as the byte by which the mouse names it: 0, 3 or 4.
abbrev pub identity_at : ℕ → Option MouseId
identity_at n = decode some none mouse_ids n

-- What was found, in the option of the definitions.
abbrev pub said_found : {X : Type 0} → rust.Option X → Option X
said_found (Some x) = some x
said_found None = none
