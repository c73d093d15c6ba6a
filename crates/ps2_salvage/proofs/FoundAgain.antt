-- Packets and loose bytes, laid out with a short tail behind them, are found again.
use mathlib.Core.Path.{◌≡◌, refl, sym}
use mathlib.Core.List.{List, ◌++◌}
use Prim.Native.Nat.{ℕ, ◌≤◌}
use lib.ListN.{length}
use Rattle.std.specs.Prelude.{Ok}
use Rattle.ps2_bytes.specs.declared.response.MouseId.{MouseId}
use Rattle.ps2_salvage.specs.Pieces.{Piece, all_bytes, packet_bytes, positions_from}
use Rattle.ps2_salvage.specs.Salvage.{salvaged}
use Rattle.ps2_salvage.specs.Rules.{InStep, Short, Ended}
use Rattle.ps2_salvage.proofs.Unique.{rules_salvaged}

pub found_again : (id : MouseId) (room places : ℕ) {parts : List Piece} {tail : List ℕ} → InStep id parts → Short id tail → length (packet_bytes parts) ≤ room → length (positions_from 0 parts) ≤ places
    → salvaged id room places (all_bytes parts ++ tail) ≡ record { answer = Ok tt; used = length (all_bytes parts); packets = packet_bytes parts; positions = positions_from 0 parts }
found_again id room places {parts} {tail} s t h g =
    sym
    (rules_salvaged
    (record {
      pieces = parts;
      rest = tail;
      right = s;
      whole = refl;
      used = refl;
      packets = refl;
      positions = refl;
      packets_fit = h;
      positions_fit = g;
      ended = Ended.short t;
    }))
