-- How far pieces go into outputs of some room.
use mathlib.Core.Bool.{Bool, true, false}
use mathlib.Core.Path.{◌≡◌, refl, ap, ap₂, sym, ◌∙◌}
use mathlib.Core.List.{List, [], ◌∷◌, ◌++◌, append-nil}
use Prim.Native.Nat.{ℕ, suc, ◌+◌, ◌-◌, ◌≤◌, ◌<◌}
use native.Mathlib.Nat.{sub-zero, add-zero}
use native.Mathlib.Omega.{arith}
use lib.Dec.{leb, ltb}
use lib.ListN.{length, length-append}
use borrow.Author.Tests.{leb-true, leb-false, ltb-true, ltb-false}
use Rattle.std.specs.Prelude.{Ok, Err}
use Rattle.ps2_salvage.specs.declared.SalvageRefusal.TheVariants.{NoRoom}
use Rattle.ps2_salvage.specs.Pieces.{Piece, packet, dropped, all_bytes, packet_bytes, positions_from}
use Rattle.ps2_salvage.specs.Salvage.{Ending, ends, after, written}
use Rattle.ps2_salvage.proofs.Written.{after-after, written_nothing, written-packet, no_room_for_packet, written_position, no_place_for_position}

-- the bytes of pieces that are dropped
unfoldable pub dropped_bytes : List Piece → List ℕ
dropped_bytes [] = []
dropped_bytes (packet bytes ∷ more) = dropped_bytes more
dropped_bytes (dropped b ∷ more) = b ∷ dropped_bytes more

pub positions_length : (at : ℕ) (parts : List Piece) → length (positions_from at parts) ≡ length (dropped_bytes parts)
unfolding positions_from dropped_bytes
positions_length at [] = refl
positions_length at (packet bytes ∷ more) = positions_length (at + length bytes) more
positions_length at (dropped b ∷ more) = ap suc (positions_length (at + 1) more)

-- ---- pieces that fit are written

pub written_fits : (at room places : ℕ) (fit more : List Piece) → length (packet_bytes fit) ≤ room → length (dropped_bytes fit) ≤ places
    → written at room places (fit ++ more)
    ≡ after (packet_bytes fit) (positions_from at fit) (written (at + length (all_bytes fit)) (room - length (packet_bytes fit)) (places - length (dropped_bytes fit)) more)
unfolding all_bytes packet_bytes positions_from dropped_bytes
written_fits at room places [] more h g = rw (add-zero at, sub-zero room, sub-zero places)
written_fits at room places (packet bytes ∷ fit) more h g =
    let n = length-append bytes (packet_bytes fit) in
    let m = length-append bytes (all_bytes fit) in
    written-packet at room places bytes (fit ++ more) (omega arith)
    ∙ ap (after bytes []) (written_fits (at + length bytes) (room - length bytes) places fit more (omega arith) g)
    ∙ after-after bytes [] (packet_bytes fit) (positions_from (at + length bytes) fit) _
    ∙ ap₂ (λ (k l : ℕ). after (bytes ++ packet_bytes fit) (positions_from (at + length bytes) fit) (written k l (places - length (dropped_bytes fit)) more)) (omega arith) (omega arith)
written_fits at room places (dropped b ∷ fit) more h g =
    written_position at room places b (fit ++ more) (omega arith)
    ∙ ap (after [] (at ∷ [])) (written_fits (at + 1) room (places - 1) fit more h (omega arith))
    ∙ after-after [] (at ∷ []) (packet_bytes fit) (positions_from (at + 1) fit) _
    ∙ ap₂ (λ (k l : ℕ). after (packet_bytes fit) (at ∷ positions_from (at + 1) fit) (written k (room - length (packet_bytes fit)) l more)) (omega arith) (omega arith)

-- ---- and where one doesn't, the pass ends

-- the first of these pieces finds too little room, or there is none
pub data Stops (room places : ℕ) : List Piece → Type 0 where
  no_piece : Stops room places []
  no_room : {bytes : List ℕ} {more : List Piece} → room < length bytes → Stops room places (packet bytes ∷ more)
  no_place : {b : ℕ} {more : List Piece} → places ≤ 0 → Stops room places (dropped b ∷ more)

abbrev pub stop_answer : List Piece → Ending
stop_answer [] = Ok tt
stop_answer (p ∷ more) = Err NoRoom

pub written_stops : (at : ℕ) {room places : ℕ} {more : List Piece} → Stops room places more → written at room places more ≡ ends (stop_answer more) at
written_stops at {room} {places} Stops.no_piece = written_nothing at room places
written_stops at {room} {places} (Stops.no_room {bytes} {more} h) = no_room_for_packet at room places bytes more h
written_stops at {room} {places} (Stops.no_place {b} {more} h) = no_place_for_position at room places b more h

-- ---- both together

pub record Fitting (room places : ℕ) (parts : List Piece) : Type 0 where
  pub fit : List Piece
  pub more : List Piece
  pub parted : fit ++ more ≡ parts
  pub packets_fit : length (packet_bytes fit) ≤ room
  pub positions_fit : length (dropped_bytes fit) ≤ places
  pub stops : Stops (room - length (packet_bytes fit)) (places - length (dropped_bytes fit)) more

stopped : {room places : ℕ} {parts : List Piece} → Stops room places parts → Fitting room places parts
unfolding packet_bytes dropped_bytes
stopped {room} {places} {parts} s =
    record { fit = []; more = parts; parted = refl; packets_fit = omega arith; positions_fit = omega arith; stops = rw (sub-zero room, sub-zero places) s }

by_room : (room places : ℕ) (bytes : List ℕ) (more : List Piece) (enough : Bool) → leb (length bytes) room ≡ enough → Fitting (room - length bytes) places more → Fitting room places (packet bytes ∷ more)
unfolding packet_bytes dropped_bytes
by_room room places bytes more true e f =
    let h = leb-true (length bytes) room e in
    let n = length-append bytes (packet_bytes f.fit) in
    let left : room - length (bytes ++ packet_bytes f.fit) ≡ room - length bytes - length (packet_bytes f.fit) = omega arith in
    record {
      fit = packet bytes ∷ f.fit;
      more = f.more;
      parted = ap (λ (l : List Piece). packet bytes ∷ l) f.parted;
      packets_fit = omega (arith, f.packets_fit);
      positions_fit = f.positions_fit;
      stops = rw left f.stops;
    }
by_room room places bytes more false e f = stopped (Stops.no_room (leb-false (length bytes) room e))

by_place : (room places b : ℕ) (more : List Piece) (enough : Bool) → ltb 0 places ≡ enough → Fitting room (places - 1) more → Fitting room places (dropped b ∷ more)
unfolding packet_bytes dropped_bytes
by_place room places b more true e f =
    let h = ltb-true 0 places e in
    let left : places - suc (length (dropped_bytes f.fit)) ≡ places - 1 - length (dropped_bytes f.fit) = omega arith in
    record {
      fit = dropped b ∷ f.fit;
      more = f.more;
      parted = ap (λ (l : List Piece). dropped b ∷ l) f.parted;
      packets_fit = f.packets_fit;
      positions_fit = omega (arith, f.positions_fit);
      stops = rw left f.stops;
    }
by_place room places b more false e f = stopped (Stops.no_place (ltb-false 0 places e))

pub fitting : (room places : ℕ) (parts : List Piece) → Fitting room places parts
fitting room places [] = stopped Stops.no_piece
fitting room places (packet bytes ∷ more) = by_room room places bytes more (leb (length bytes) room) refl (fitting (room - length bytes) places more)
fitting room places (dropped b ∷ more) = by_place room places b more (ltb 0 places) refl (fitting room (places - 1) more)

-- what is written is what fits
pub fitting_written : (at : ℕ) {room places : ℕ} {parts : List Piece} (f : Fitting room places parts) → written at room places parts
    ≡ record { answer = stop_answer f.more; used = at + length (all_bytes f.fit); packets = packet_bytes f.fit; positions = positions_from at f.fit }
fitting_written at {room} {places} f =
    ap (written at room places) (sym f.parted) ∙ written_fits at room places f.fit f.more f.packets_fit f.positions_fit
    ∙ ap (after (packet_bytes f.fit) (positions_from at f.fit)) (written_stops (at + length (all_bytes f.fit)) f.stops)
    ∙ rw (append-nil (packet_bytes f.fit), append-nil (positions_from at f.fit))
