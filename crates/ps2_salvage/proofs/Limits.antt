-- What a recording needs of its outputs: 30 exactly where there is less.
use mathlib.Core.Path.{◌≡◌, refl, ap, sym, ◌∙◌}
use mathlib.Core.List.{List, [], ◌∷◌, ◌++◌, append-nil}
use mathlib.Core.Logic.{◌⊎◌, ⊎_elim}
use Prim.Native.Nat.{ℕ, ◌+◌, ◌≤◌, ◌<◌}
use native.Mathlib.Nat.{zero-add}
use native.Mathlib.Omega.{arith}
use lib.ListN.{length, drop, length-append}
use lib.Seq.{drop-append_seam}
use Rattle.std.specs.Prelude.{Ok, Err}
use Rattle.ps2_bytes.specs.declared.response.MouseId.{MouseId}
use Rattle.ps2_salvage.specs.declared.SalvageRefusal.TheVariants.{NoRoom}
use Rattle.ps2_salvage.specs.Pieces.{Piece, all_bytes, packet_bytes, positions_from}
use Rattle.ps2_salvage.specs.Salvage.{Outcome, written}
use Rattle.ps2_salvage.specs.Limits.{unhindered, Limits}
use Rattle.ps2_salvage.proofs.Split.{Split, split, split_pieces}
use Rattle.ps2_salvage.proofs.Fitting.{dropped_bytes, positions_length, Stops, Fitting, fitting, fitting_written, stop_answer}
use Rattle.ps2_salvage.proofs.Together.{counted}

-- all pieces of a recording, written
abbrev everything : List Piece → Outcome
everything parts = record { answer = Ok tt; used = 0 + length (all_bytes parts); packets = packet_bytes parts; positions = positions_from 0 parts }

all_written : (room places : ℕ) (parts : List Piece) → length (packet_bytes parts) ≤ room → length (dropped_bytes parts) ≤ places → written 0 room places parts ≡ everything parts
all_written room places parts h g =
    fitting_written 0 (record { fit = parts; more = []; parted = append-nil parts; packets_fit = h; positions_fit = g; stops = Stops.no_piece })

-- a pass that is stopped by nothing has room for everything
not_all : {room places : ℕ} {parts : List Piece} (f : Fitting room places parts) → (room < length (packet_bytes parts)) ⊎ (places < length (dropped_bytes parts)) → stop_answer f.more ≡ Err NoRoom
not_all {room} {places} {parts} f short = go f.more refl
  where
    go : (more : List Piece) → f.more ≡ more → stop_answer more ≡ Err NoRoom
    go (p ∷ more) e = refl
    go [] e =
        let all : f.fit ≡ parts = sym (append-nil f.fit) ∙ ap (λ (l : List Piece). f.fit ++ l) (sym e) ∙ f.parted in
        let h = rw all at f.packets_fit in
        let g = rw all at f.positions_fit in
        absurd (⊎_elim (λ s. omega arith) (λ s. omega arith) short)

split_limits : {id : MouseId} (room places : ℕ) {bytes : List ℕ} → Split id bytes → Limits id room places bytes
split_limits {id} room places {bytes} s =
    let parts = s.parts in
    let found = split_pieces s in
    let n = positions_length 0 parts in
    let size : length (all_bytes parts) ≤ length bytes = omega (arith, ap length s.whole, length-append (all_bytes parts) s.rest) in
    let all : unhindered id bytes ≡ everything parts =
    ap (written 0 (length bytes) (length bytes)) found ∙ all_written (length bytes) (length bytes) parts (omega (arith, counted parts)) (omega (arith, counted parts))
    in
    let behind : drop (length (all_bytes parts)) bytes ≡ s.rest = ap (drop (length (all_bytes parts))) (sym s.whole) ∙ drop-append_seam (all_bytes parts) s.rest in
    let f = fitting room places parts in
    record {
      done = ap (λ (o : Outcome). o.answer) all;
      tail = rw (all, zero-add (length (all_bytes parts)), behind) s.short;
      enough = rw all (λ h g. ap (written 0 room places) found ∙ all_written room places parts h (rw (← n) g));
      too_little = rw (all, n) (λ short. ap (λ (o : Outcome). o.answer) (ap (written 0 room places) found ∙ fitting_written 0 f) ∙ not_all f short);
    }

pub limits : (id : MouseId) (room places : ℕ) (bytes : List ℕ) → Limits id room places bytes
limits id room places bytes = split_limits room places (split id bytes)
