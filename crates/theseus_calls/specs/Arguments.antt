-- What the number of an argument stands for that the library doesn't take.
use Rattle.std.specs.Prelude.{ℕ}
use Rattle.std.proofs.Math.Option.{Option, none, some}
use Rattle.bits.specs.Table.{decode}
use Rattle.ps2_bytes.specs.declared.data.ScancodeSet.{ScancodeSet}
use Rattle.ps2_bytes.specs.Data.{scancode_sets}

-- A scancode set by its byte: 0, which asks, is one here.
abbrev pub set_at : ℕ → Option ScancodeSet
set_at n = decode some none scancode_sets n
