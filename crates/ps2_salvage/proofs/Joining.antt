-- A recording salvaged in two parts, the second from where the first stopped.
use mathlib.Core.Path.{◌≡◌, refl, ap, ap₂, sym, ◌∙◌}
use mathlib.Core.List.{List, [], ◌∷◌, ◌++◌, append_assoc, append-nil, map}
use Prim.Native.Nat.{ℕ, ◌+◌, ◌-◌, ◌≤◌}
use native.Mathlib.Nat.{add-zero, zero-add, add_assoc}
use native.Mathlib.Omega.{arith}
use lib.ListN.{length, drop}
use lib.Seq.{drop-append_seam}
use Rattle.ps2_bytes.specs.declared.response.MouseId.{MouseId}
use Rattle.ps2_salvage.specs.Pieces.{Piece, packet, dropped, pieces, all_bytes, packet_bytes, positions_from}
use Rattle.ps2_salvage.specs.Salvage.{Outcome, after, written, salvaged}
use Rattle.ps2_salvage.specs.Rules.{Rules}
use Rattle.ps2_salvage.specs.Joined.{gone_on, joined}
use Rattle.ps2_salvage.proofs.Split.{pieces_laid}
use Rattle.ps2_salvage.proofs.Fitting.{dropped_bytes, positions_length, written_fits, fitting, fitting_written, stop_answer}
use Rattle.ps2_salvage.proofs.Rules.{rules}

-- positions are counted from where the first piece stands
positions_moved : (by at : ℕ) (parts : List Piece) → positions_from (by + at) parts ≡ map (λ p. by + p) (positions_from at parts)
unfolding positions_from
positions_moved by at [] = refl
positions_moved by at (packet bytes ∷ more) = ap (λ (k : ℕ). positions_from k more) (add_assoc by at (length bytes)) ∙ positions_moved by (at + length bytes) more
positions_moved by at (dropped b ∷ more) =
    ap (λ (l : List ℕ). (by + at) ∷ l) (ap (λ (k : ℕ). positions_from k more) (add_assoc by at 1) ∙ positions_moved by (at + 1) more)

abbrev moved : ℕ → Outcome → Outcome
moved by o = record { answer = o.answer; used = by + o.used; packets = o.packets; positions = map (λ p. by + p) o.positions }

written_moved : (by room places : ℕ) (parts : List Piece) → written by room places parts ≡ moved by (written 0 room places parts)
written_moved by room places parts =
    let f = fitting room places parts in
    fitting_written by f
    ∙ ap₂ (λ (used : ℕ) (positions : List ℕ). record { answer = stop_answer f.more; used = used; packets = packet_bytes f.fit; positions = positions })
    (omega arith)
    (ap (λ (k : ℕ). positions_from k f.fit) (sym (add-zero by)) ∙ positions_moved by 0 f.fit)
    ∙ ap (moved by) (sym (fitting_written 0 f))

-- what a pass used is found again in front of anything
rules_joined : {id : MouseId} {room places : ℕ} {bytes : List ℕ} {o : Outcome} (more_room more_places : ℕ) (more : List ℕ) → room ≤ more_room → places ≤ more_places → Rules id room places bytes o
    → salvaged id more_room more_places (bytes ++ more) ≡ joined o (gone_on id o more_room more_places bytes more)
rules_joined {id} {room} {places} {bytes} {o} more_room more_places more h g r =
    let q = r.pieces in
    let n : length o.positions ≡ length (dropped_bytes q) = ap length r.positions ∙ positions_length 0 q in
    let packets_fit : length (packet_bytes q) ≤ more_room = omega (arith, r.packets_fit, ap length r.packets) in
    let positions_fit : length (dropped_bytes q) ≤ more_places = omega (arith, r.positions_fit, n) in
    let ahead : drop o.used bytes ++ more ≡ r.rest ++ more = rw (r.used, ← r.whole) (ap (λ (l : List ℕ). l ++ more) (drop-append_seam (all_bytes q) r.rest)) in
    let found : pieces id (bytes ++ more) ≡ q ++ pieces id (r.rest ++ more) =
    ap (pieces id) (ap (λ (l : List ℕ). l ++ more) (sym r.whole) ∙ append_assoc (all_bytes q) r.rest more) ∙ pieces_laid id (r.rest ++ more) r.right
    in
    ap (written 0 more_room more_places) found ∙ written_fits 0 more_room more_places q (pieces id (r.rest ++ more)) packets_fit positions_fit
    ∙ ap (after (packet_bytes q) (positions_from 0 q)) (written_moved (0 + length (all_bytes q)) (more_room - length (packet_bytes q)) (more_places - length (dropped_bytes q)) (pieces id (r.rest ++ more)))
    ∙ rw (ahead, n, r.packets, r.positions, r.used, zero-add (length (all_bytes q)))

-- ---- the whole

module _ (id : MouseId) (room places : ℕ) (bytes : List ℕ) where
  abbrev first : Outcome
  first = salvaged id room places bytes

  -- a second pass with more bytes and with more room
  pub salvaged_joined : (more_room more_places : ℕ) (more : List ℕ) → room ≤ more_room → places ≤ more_places
      → salvaged id more_room more_places (bytes ++ more) ≡ joined first (gone_on id first more_room more_places bytes more)
  salvaged_joined more_room more_places more h g = rules_joined more_room more_places more h g (rules id room places bytes)

  -- after 30 a caller goes on where the pass stopped, with more room
  pub resumed : (more_room more_places : ℕ) → room ≤ more_room → places ≤ more_places → salvaged id more_room more_places bytes ≡ joined first (gone_on id first more_room more_places bytes [])
  resumed more_room more_places h g = ap (salvaged id more_room more_places) (sym (append-nil bytes)) ∙ salvaged_joined more_room more_places [] h g

  -- a recording in two parts, the second from where the first stopped for lack of a whole packet
  pub joining : (more : List ℕ) → salvaged id room places (bytes ++ more) ≡ joined first (gone_on id first room places bytes more)
  joining more = salvaged_joined room places more (omega arith) (omega arith)
