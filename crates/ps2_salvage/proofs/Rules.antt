-- The defined pass satisfies the rules of salvage.
use mathlib.Core.Path.{◌≡◌, refl, ap, sym, ◌∙◌}
use mathlib.Core.List.{List, [], ◌∷◌, ◌++◌, append_assoc}
use Prim.Native.Nat.{ℕ, ◌+◌, ◌≤◌}
use native.Mathlib.Nat.{zero-add}
use native.Mathlib.Omega.{arith}
use lib.ListN.{length, length-append}
use Rattle.ps2_bytes.specs.declared.response.MouseId.{MouseId}
use Rattle.ps2_packet.specs.Packet.{packet_length}
use Rattle.ps2_salvage.specs.Pieces.{Piece, packet, dropped, all_bytes, packet_bytes, positions_from}
use Rattle.ps2_salvage.specs.Salvage.{written, salvaged}
use Rattle.ps2_salvage.specs.Rules.{InStep, Short, Ended, Rules}
use Rattle.ps2_salvage.proofs.Split.{split, split_pieces}
use Rattle.ps2_salvage.proofs.Fitting.{positions_length, Stops, stop_answer, fitting, fitting_written}

pub all_bytes-append : (some more : List Piece) → all_bytes (some ++ more) ≡ all_bytes some ++ all_bytes more
unfolding all_bytes
all_bytes-append [] more = refl
all_bytes-append (packet bytes ∷ some) more = ap (λ (l : List ℕ). bytes ++ l) (all_bytes-append some more) ∙ sym (append_assoc bytes (all_bytes some) (all_bytes more))
all_bytes-append (dropped b ∷ some) more = ap (λ (l : List ℕ). b ∷ l) (all_bytes-append some more)

in_step_front : {id : MouseId} (some more : List Piece) → InStep id (some ++ more) → InStep id some
in_step_front [] more s = InStep.nothing
in_step_front (packet bytes ∷ some) more (InStep.taken e n s) = InStep.taken e n (in_step_front some more s)
in_step_front (dropped b ∷ some) more (InStep.left_out e s) = InStep.left_out e (in_step_front some more s)

in_step_back : {id : MouseId} (some more : List Piece) → InStep id (some ++ more) → InStep id more
in_step_back [] more s = s
in_step_back (packet bytes ∷ some) more (InStep.taken e n s) = in_step_back some more s
in_step_back (dropped b ∷ some) more (InStep.left_out e s) = in_step_back some more s

-- pieces that stop the pass end it as the rules say
stops_ended : {id : MouseId} {room places : ℕ} {more : List Piece} {rest : List ℕ} → Stops room places more → InStep id more → Short id rest
    → Ended id room places (stop_answer more) (all_bytes more ++ rest)
unfolding all_bytes
stops_ended Stops.no_piece s t = Ended.short t
stops_ended {id} {room} {places} {rest = rest} (Stops.no_room h) (InStep.taken {b} {bytes} {more} e n s) t =
    let long : packet_length id ≤ length (b ∷ (bytes ++ all_bytes more ++ rest)) =
    omega (arith, n, length-append (bytes ++ all_bytes more) rest, length-append bytes (all_bytes more))
    in
    Ended.no_room e long (rw (← n) h)
stops_ended (Stops.no_place h) (InStep.left_out {b} {more} e s) t = Ended.no_place e (omega arith)

pub rules : (id : MouseId) (room places : ℕ) (bytes : List ℕ) → Rules id room places bytes (salvaged id room places bytes)
rules id room places bytes =
    let s = split id bytes in
    let f = fitting room places s.parts in
    let right : InStep id (f.fit ++ f.more) = rw f.parted s.right in
    let all : salvaged id room places bytes ≡ record { answer = stop_answer f.more; used = 0 + length (all_bytes f.fit); packets = packet_bytes f.fit; positions = positions_from 0 f.fit } =
    ap (written 0 room places) (split_pieces s) ∙ fitting_written 0 f
    in
    let n = positions_length 0 f.fit in
    let said : Rules id room places bytes (record { answer = stop_answer f.more; used = 0 + length (all_bytes f.fit); packets = packet_bytes f.fit; positions = positions_from 0 f.fit }) =
    record {
      pieces = f.fit;
      rest = all_bytes f.more ++ s.rest;
      right = in_step_front f.fit f.more right;
      whole = sym (append_assoc (all_bytes f.fit) (all_bytes f.more) s.rest) ∙ rw (← all_bytes-append f.fit f.more, f.parted) s.whole;
      used = zero-add (length (all_bytes f.fit));
      packets = refl;
      positions = refl;
      packets_fit = f.packets_fit;
      positions_fit = rw n f.positions_fit;
      ended = rw n (stops_ended f.stops (in_step_back f.fit f.more right) s.short);
    }
    in
    rw all said
