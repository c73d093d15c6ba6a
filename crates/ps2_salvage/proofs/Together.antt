-- "Packet bytes, dropped bytes and unused rest together are the input, each byte in its place."
use mathlib.Core.Bool.{true, false}
use mathlib.Core.Path.{subst, ◌≡◌, refl, ap, ap₂, sym, ◌∙◌}
use mathlib.Core.List.{List, [], ◌∷◌, ◌++◌, append_assoc}
use Prim.Native.Nat.{ℕ, zero, suc, ◌+◌, ◌*◌, ◌-◌, ◌≤◌, ◌<◌}
use native.Mathlib.Nat.{zero-mul, suc-mul}
use native.Mathlib.Omega.{arith}
use lib.ListN.{length, get_or, length-append}
use lib.Seq.{take-append-add, drop-append-add, get_or-append_seam, get_or-append-add, drop-append_seam}
use Rattle.ps2_bytes.specs.declared.response.MouseId.{MouseId}
use Rattle.ps2_packet.specs.Packet.{packet_length}
use Rattle.ps2_salvage.specs.Pieces.{Piece, packet, dropped, starts, all_bytes, packet_bytes, positions_from}
use Rattle.ps2_salvage.specs.Salvage.{Outcome, salvaged}
use Rattle.ps2_salvage.specs.Rules.{InStep, Rules}
use Rattle.ps2_salvage.specs.Together.{Dropped, dropped_from, laid_out, Together}
use Rattle.ps2_salvage.proofs.Fitting.{dropped_bytes, positions_length}
use Rattle.ps2_salvage.proofs.Rules.{rules}

-- ---- laid out again

-- dropped bytes with their positions, from where the first piece stands
dropped_of : ℕ → List Piece → List Dropped
dropped_of at [] = []
dropped_of at (packet bytes ∷ more) = dropped_of (at + length bytes) more
dropped_of at (dropped b ∷ more) = record { position = at; byte = b } ∷ dropped_of (at + 1) more

-- dropped bytes that all stand from a position on
data From (at : ℕ) : List Dropped → Type 0 where
  none : From at []
  first : {d : Dropped} {more : List Dropped} → at ≤ d.position → From at (d ∷ more)

from_later : {at later : ℕ} {ds : List Dropped} → at ≤ later → From later ds → From at ds
from_later h From.none = From.none
from_later {at} h (From.first {d} g) =
    let low : at ≤ d.position = omega arith in
    From.first low

dropped_from_lem : (at : ℕ) (parts : List Piece) → From at (dropped_of at parts)
unfolding dropped_of
dropped_from_lem at [] = From.none
dropped_from_lem at (packet bytes ∷ more) = from_later (omega arith) (dropped_from_lem (at + length bytes) more)
dropped_from_lem at (dropped b ∷ more) = From.first {d = record { position = at; byte = b }} (omega arith)

-- bytes before the first dropped one come from the packets
laid_front : (at : ℕ) (bytes packets : List ℕ) (ds : List Dropped) → From (at + length bytes) ds
    → laid_out at ds (bytes ++ packets) ≡ bytes ++ laid_out (at + length bytes) ds packets
unfolding laid_out
laid_front at bytes packets [] h = refl
laid_front at bytes packets (d ∷ more) (From.first h) =
    let gap : d.position - at ≡ length bytes + (d.position - (at + length bytes)) = omega arith in
    rw gap
    (rw (take-append-add bytes packets (d.position - (at + length bytes)), drop-append-add bytes packets (d.position - (at + length bytes))) (append_assoc bytes _ _))

laid_out_lem : (at : ℕ) (parts : List Piece) → laid_out at (dropped_of at parts) (packet_bytes parts) ≡ all_bytes parts
unfolding laid_out dropped_of packet_bytes all_bytes
laid_out_lem at [] = refl
laid_out_lem at (packet bytes ∷ more) =
    laid_front at bytes (packet_bytes more) (dropped_of (at + length bytes) more) (dropped_from_lem (at + length bytes) more)
    ∙ ap (λ (l : List ℕ). bytes ++ l) (laid_out_lem (at + length bytes) more)
laid_out_lem at (dropped b ∷ more) =
    let none : at - at ≡ 0 = omega arith in
    rw none (ap (λ (l : List ℕ). b ∷ l) (laid_out_lem (at + 1) more))

-- the dropped bytes are those that stand at their positions
dropped_at : (front : List ℕ) (parts : List Piece) (rest : List ℕ)
    → dropped_from (front ++ (all_bytes parts ++ rest)) (positions_from (length front) parts) ≡ dropped_of (length front) parts
unfolding dropped_of positions_from all_bytes
dropped_at front [] rest = refl
dropped_at front (packet bytes ∷ more) rest =
    rw (← length-append front bytes, append_assoc bytes (all_bytes more) rest, ← append_assoc front bytes (all_bytes more ++ rest)) (dropped_at (front ++ bytes) more rest)
dropped_at front (dropped b ∷ more) rest =
    ap₂ (λ (byte : ℕ) (l : List Dropped). record { position = length front; byte = byte } ∷ l) (get_or-append_seam front b (all_bytes more ++ rest) 0)
    (rw (← length-append front (b ∷ []))
    (subst (λ (l : List ℕ). dropped_from l (positions_from (length (front ++ (b ∷ []))) more) ≡ dropped_of (length (front ++ (b ∷ []))) more)
    (append_assoc front (b ∷ []) (all_bytes more ++ rest))
    (dropped_at (front ++ (b ∷ [])) more rest)))

-- ---- counted

pub counted : (parts : List Piece) → length (packet_bytes parts) + length (dropped_bytes parts) ≡ length (all_bytes parts)
unfolding packet_bytes dropped_bytes all_bytes
counted [] = refl
counted (packet bytes ∷ more) = omega (arith, length-append bytes (packet_bytes more), length-append bytes (all_bytes more), counted more)
counted (dropped b ∷ more) = omega (arith, counted more)

-- ---- positions rise

position_low : (at : ℕ) (parts : List Piece) (i : ℕ) → i < length (positions_from at parts) → at ≤ get_or (positions_from at parts) i 0
unfolding positions_from
position_low at [] i h = absurd (omega arith)
position_low at (packet bytes ∷ more) i h = omega (arith, position_low (at + length bytes) more i h)
position_low at (dropped b ∷ more) zero h = omega arith
position_low at (dropped b ∷ more) (suc i) h = omega (arith, position_low (at + 1) more i (omega arith))

position_high : (at : ℕ) (parts : List Piece) (i : ℕ) → i < length (positions_from at parts) → get_or (positions_from at parts) i 0 < at + length (all_bytes parts)
unfolding positions_from all_bytes
position_high at [] i h = absurd (omega arith)
position_high at (packet bytes ∷ more) i h = omega (arith, position_high (at + length bytes) more i h, length-append bytes (all_bytes more))
position_high at (dropped b ∷ more) zero h = omega arith
position_high at (dropped b ∷ more) (suc i) h = omega (arith, position_high (at + 1) more i (omega arith))

positions_rise : (at : ℕ) (parts : List Piece) (i j : ℕ) → i < j → j < length (positions_from at parts) → get_or (positions_from at parts) i 0 < get_or (positions_from at parts) j 0
unfolding positions_from
positions_rise at [] i j l h = absurd (omega arith)
positions_rise at (packet bytes ∷ more) i j l h = positions_rise (at + length bytes) more i j l h
positions_rise at (dropped b ∷ more) i zero l h = absurd (omega arith)
positions_rise at (dropped b ∷ more) zero (suc j) l h = omega (arith, position_low (at + 1) more j (omega arith))
positions_rise at (dropped b ∷ more) (suc i) (suc j) l h = positions_rise (at + 1) more i j (omega arith) (omega arith)

-- ---- bit 3

dropped_clear : {id : MouseId} (front : List ℕ) {parts : List Piece} (rest : List ℕ) → InStep id parts → (i : ℕ) → i < length (positions_from (length front) parts)
    → starts (get_or (front ++ (all_bytes parts ++ rest)) (get_or (positions_from (length front) parts) i 0) 0) ≡ false
unfolding positions_from all_bytes
dropped_clear front rest InStep.nothing i h = absurd (omega arith)
dropped_clear front rest (InStep.taken {b} {bytes} {more} e n s) i h =
    rw (← length-append front (b ∷ bytes), append_assoc bytes (all_bytes more) rest, ← append_assoc front (b ∷ bytes) (all_bytes more ++ rest))
    (dropped_clear (front ++ (b ∷ bytes)) rest s i (rw (length-append front (b ∷ bytes)) h))
dropped_clear front rest (InStep.left_out {b} {more} e s) zero h = ap starts (get_or-append_seam front b (all_bytes more ++ rest) 0) ∙ e
dropped_clear front rest (InStep.left_out {b} {more} e s) (suc i) h =
    rw (← length-append front (b ∷ []), ← append_assoc front (b ∷ []) (all_bytes more ++ rest))
    (dropped_clear (front ++ (b ∷ [])) rest s i (rw (length-append front (b ∷ [])) (omega arith)))

packets : List Piece → ℕ
packets [] = 0
packets (packet bytes ∷ more) = suc (packets more)
packets (dropped b ∷ more) = packets more

packets_length : {id : MouseId} {parts : List Piece} → InStep id parts → length (packet_bytes parts) ≡ packets parts * packet_length id
unfolding packet_bytes packets
packets_length {id} InStep.nothing = sym (zero-mul (packet_length id))
packets_length {id} (InStep.taken {b} {bytes} {more} e n s) =
    omega (arith, length-append bytes (packet_bytes more), suc-mul (packets more) (packet_length id), n, packets_length s)
packets_length (InStep.left_out e s) = packets_length s

packets_set : {id : MouseId} {parts : List Piece} → InStep id parts → (k : ℕ) → k < packets parts → starts (get_or (packet_bytes parts) (k * packet_length id) 0) ≡ true
unfolding packet_bytes packets
packets_set InStep.nothing k h = absurd (omega arith)
packets_set {id} (InStep.taken {b} {bytes} {more} e n s) zero h = rw (zero-mul (packet_length id)) e
packets_set {id} (InStep.taken {b} {bytes} {more} e n s) (suc k) h =
    let next : suc k * packet_length id ≡ length (b ∷ bytes) + k * packet_length id = omega (arith, suc-mul k (packet_length id), n) in
    rw next (ap starts (get_or-append-add (b ∷ bytes) (packet_bytes more) (k * packet_length id) 0) ∙ packets_set s k (omega arith))
packets_set (InStep.left_out e s) k h = packets_set s k h

-- ---- all of it

pub rules_together : {id : MouseId} {room places : ℕ} {bytes : List ℕ} {o : Outcome} → Rules id room places bytes o → Together id bytes o
rules_together {id} {room} {places} {bytes} {o} r =
    let parts = r.pieces in
    let n : length (positions_from 0 parts) ≡ length o.positions = sym (ap length r.positions) in
    record {
      again =
          rw (r.positions, r.packets, r.used, ← r.whole)
          (ap₂ (λ (l m : List ℕ). l ++ m) (ap (λ (ds : List Dropped). laid_out 0 ds (packet_bytes parts)) (dropped_at [] parts r.rest) ∙ laid_out_lem 0 parts) (drop-append_seam (all_bytes parts) r.rest));
      counted = rw (r.positions, r.packets, r.used) (ap (λ (k : ℕ). length (packet_bytes parts) + k) (positions_length 0 parts) ∙ counted parts);
      within = rw (r.used, ← r.whole) (omega (arith, length-append (all_bytes parts) r.rest));
      rising = rw r.positions (positions_rise 0 parts);
      below = rw (r.positions, r.used) (λ i h. omega (arith, position_high 0 parts i h));
      clear = rw (r.positions, ← r.whole) (dropped_clear [] r.rest r.right);
      count = packets parts;
      packets = ap length r.packets ∙ packets_length r.right;
      set = rw r.packets (packets_set r.right);
    }

-- what is promised, of every pass
pub together : (id : MouseId) (room places : ℕ) (bytes : List ℕ) → Together id bytes (salvaged id room places bytes)
together id room places bytes = rules_together (rules id room places bytes)
