-- Two different outcomes can't both satisfy the rules of salvage.
use mathlib.Core.Path.{◌≡◌, ap, sym, ◌∙◌}
use mathlib.Core.List.{List, ◌∷◌, ◌++◌, append-nil}
use Prim.Native.Nat.{ℕ, ◌+◌, ◌-◌, ◌≤◌}
use native.Mathlib.Nat.{zero-add}
use native.Mathlib.Omega.{arith}
use lib.ListN.{length, take}
use lib.Seq.{length-take-le}
use Rattle.ps2_bytes.specs.declared.response.MouseId.{MouseId}
use Rattle.ps2_packet.specs.Packet.{packet_length}
use Rattle.ps2_salvage.specs.Pieces.{pieces, all_bytes, packet_bytes, positions_from}
use Rattle.ps2_salvage.specs.Salvage.{Ending, Outcome, ends, after, written, salvaged}
use Rattle.ps2_salvage.specs.Rules.{Ended, Rules}
use Rattle.ps2_salvage.proofs.Pieces.{pieces_dropped, pieces_packet}
use Rattle.ps2_salvage.proofs.Written.{written_nothing, no_room_for_packet, no_place_for_position}
use Rattle.ps2_salvage.proofs.Split.{pieces_laid, pieces_of_short}
use Rattle.ps2_salvage.proofs.Fitting.{dropped_bytes, positions_length, written_fits}

-- what comes of a rest before which a pass ended
ended_written : {id : MouseId} {room places : ℕ} {answer : Ending} {rest : List ℕ} (at : ℕ) → Ended id room places answer rest
    → written at room places (pieces id rest) ≡ ends answer at
ended_written {id} {room} {places} at (Ended.short t) = ap (written at room places) (pieces_of_short id t) ∙ written_nothing at room places
ended_written {id} {room} {places} at (Ended.no_room {b} {bytes} e n h) =
    ap (written at room places) (pieces_packet id b bytes e n)
    ∙ no_room_for_packet at room places (take (packet_length id) (b ∷ bytes)) _ (rw (length-take-le (packet_length id) (b ∷ bytes) n) h)
ended_written {id} {room} {places} at (Ended.no_place {b} {bytes} e h) =
    ap (written at room places) (pieces_dropped id b bytes e) ∙ no_place_for_position at room places b _ (omega arith)

same : (o : Outcome) {used : ℕ} {packets positions : List ℕ} → o.used ≡ used → o.packets ≡ packets → o.positions ≡ positions
    → o ≡ record { answer = o.answer; used = used; packets = packets; positions = positions }
same o u p q = λ i. record { answer = o.answer; used = u i; packets = p i; positions = q i }

pub rules_salvaged : {id : MouseId} {room places : ℕ} {bytes : List ℕ} {o : Outcome} → Rules id room places bytes o → o ≡ salvaged id room places bytes
rules_salvaged {id} {room} {places} {bytes} {o} r =
    let q = r.pieces in
    let n : length o.positions ≡ length (dropped_bytes q) = ap length r.positions ∙ positions_length 0 q in
    let packets_fit : length (packet_bytes q) ≤ room = rw (← r.packets) r.packets_fit in
    let positions_fit : length (dropped_bytes q) ≤ places = rw (← n) r.positions_fit in
    let ended : Ended id (room - length (packet_bytes q)) (places - length (dropped_bytes q)) o.answer r.rest = rw (← r.packets, ← n) r.ended in
    let found : pieces id bytes ≡ q ++ pieces id r.rest = ap (pieces id) (sym r.whole) ∙ pieces_laid id r.rest r.right in
    let all : salvaged id room places bytes ≡ after (packet_bytes q) (positions_from 0 q) (ends o.answer (0 + length (all_bytes q))) =
    ap (written 0 room places) found ∙ written_fits 0 room places q (pieces id r.rest) packets_fit positions_fit
    ∙ ap (after (packet_bytes q) (positions_from 0 q)) (ended_written (0 + length (all_bytes q)) ended)
    in
    same o (r.used ∙ sym (zero-add (length (all_bytes q)))) (r.packets ∙ sym (append-nil (packet_bytes q))) (r.positions ∙ sym (append-nil (positions_from 0 q))) ∙ sym all

pub unique : {id : MouseId} {room places : ℕ} {bytes : List ℕ} {o p : Outcome} → Rules id room places bytes o → Rules id room places bytes p → o ≡ p
unique r q = rules_salvaged r ∙ sym (rules_salvaged q)
