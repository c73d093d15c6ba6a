-- One turn of a search by a table, from what the code made of a byte.
use Rattle.std.specs.Prelude.{Result, Ok, Err}
use Rattle.ps2_bytes.specs.declared.Unlisted.{Unlisted}
use Prim.Native.Nat.{ℕ}
use mathlib.Core.List.{List}
use mathlib.Core.Path.{◌≡◌, sym, ap, ◌∙◌}
use Rattle.bits.specs.Table.{decode}
use Rattle.bits.proofs.Table.{decode_map}
use Rattle.exchange.specs.Answer.{Answer, gives}
use Rattle.exchange.specs.Repeat.{Turn, found, again}
use Rattle.ps2_bytes.specs.declared.data.ScancodeSet.{ScancodeSet}
use Rattle.ps2_bytes.specs.Data.{scancode_sets, scancode_set_read}
use Rattle.ps2_command.specs.Search.{listed_turn}

-- a byte that a table lists ends a search, as the code reads the byte by the same table
pub heard_turn : {A R : Type 0} (heard : R → Turn (Answer A)) (listed : A → R) (missing : R) (table : List (ℕ × A)) (b : ℕ) {x y : R}
    → x ≡ decode listed missing table b → x ≡ y → decode (λ a. heard (listed a)) (heard missing) table b ≡ heard y
heard_turn heard listed missing table b p q = decode_map heard listed missing table b ∙ ap heard (sym p ∙ q)

abbrev pub told_set : Result ScancodeSet Unlisted → Turn (Answer ScancodeSet)
told_set (Ok s) = found (gives s)
told_set (Err e) = again

pub set_turn : (b : ℕ) {x y : Result ScancodeSet Unlisted} → x ≡ scancode_set_read b → x ≡ y → listed_turn scancode_sets b ≡ told_set y
set_turn b = heard_turn told_set Ok (Err (record { 0 = b })) scancode_sets b
