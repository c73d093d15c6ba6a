-- A mouse's packet, byte by byte; a byte as a scancode set.
use Prim.Native.Nat.{ℕ}
use mathlib.Core.Path.{◌≡◌, sym, ap, ◌∙◌}
use Rattle.std.specs.Prelude.{Result, Ok, Err}
use Rattle.bits.proofs.Table.{decode_map}
use Rattle.exchange.specs.Exchange.{p60, Exchange, read}
use Rattle.exchange.specs.Answer.{Answer, gives}
use Rattle.exchange.specs.Repeat.{Turn, found, again}
use Rattle.ps2_bytes.specs.declared.Unlisted.{Unlisted}
use Rattle.ps2_bytes.specs.declared.data.ScancodeSet.{ScancodeSet}
use Rattle.ps2_bytes.specs.Data.{scancode_sets, scancode_set_read}
use Rattle.ps2_ports.specs.Ports.{read_data}
use Rattle.ps2_command.specs.Search.{listed_turn}
use Rattle.ps2_packet_reading.specs.Reading.{three_bytes}
use Rattle.theseus_ps2.specs.Hardware.{Device, ran, run}
use Rattle.theseus_ps2.proofs.Run.{data_then}

module _ {S : Type 0} (d : Device S) where
  pub three_read : {A : Type 0} (next : ℕ → ℕ → ℕ → Exchange A) (s s1 s2 s3 : S) (b1 b2 b3 : ℕ)
      → ran (gives b1) s1 ≡ run d read_data s → ran (gives b2) s2 ≡ run d read_data s1 → ran (gives b3) s3 ≡ run d read_data s2
      → run d (three_bytes next) s ≡ run d (next b1 b2 b3) s3
  three_read next s s1 s2 s3 b1 b2 b3 p q r =
      data_then d (λ b1. read p60 (λ b2. read p60 (λ b3. next b1 b2 b3))) s s1 b1 p
      ∙ data_then d (λ b2. read p60 (λ b3. next b1 b2 b3)) s1 s2 b2 q ∙ data_then d (λ b3. next b1 b2 b3) s2 s3 b3 r

-- what a byte is worth that is polled for a scancode set
abbrev heard : Result ScancodeSet Unlisted → Turn (Answer ScancodeSet)
heard (Ok r) = found (gives r)
heard (Err e) = again

pub worth_set : (b : ℕ) {t t2 : Result ScancodeSet Unlisted} → t ≡ scancode_set_read b → t ≡ t2 → heard t2 ≡ listed_turn scancode_sets b
worth_set b p q = ap heard (sym q ∙ p) ∙ sym (decode_map heard Ok (Err (record { 0 = b })) scancode_sets b)
