-- Every recording falls into pieces and a tail too short for a packet, in one way only.
use mathlib.Core.Bool.{Bool, true, false}
use mathlib.Core.Path.{◌≡◌, refl, ap, sym, ◌∙◌}
use mathlib.Core.List.{List, [], ◌∷◌, ◌++◌, append_assoc, append-nil}
use Prim.Native.Nat.{ℕ, zero, suc, ◌-◌, ◌≤◌, ◌<◌}
use native.Mathlib.Omega.{arith}
use lib.Dec.{leb}
use lib.ListN.{length, take, drop, length-append, length-drop, take-append-drop}
use lib.Seq.{take_at, drop_at, length-take-le}
use borrow.Author.Tests.{leb-true, leb-false}
use Rattle.ps2_bytes.specs.declared.response.MouseId.{MouseId}
use Rattle.ps2_packet.specs.Packet.{packet_length}
use Rattle.ps2_salvage.specs.Pieces.{Piece, packet, dropped, starts, pieces, all_bytes}
use Rattle.ps2_salvage.specs.Rules.{InStep, Short}
use Rattle.ps2_salvage.proofs.Pieces.{pieces_nothing, pieces_dropped, pieces_short, pieces_packet, packet_bound}

-- ---- one way only

-- pieces of the right kind, laid out with anything behind them, are found again
pub pieces_laid : (id : MouseId) {parts : List Piece} (rest : List ℕ) → InStep id parts → pieces id (all_bytes parts ++ rest) ≡ parts ++ pieces id rest
unfolding all_bytes
pieces_laid id rest InStep.nothing = refl
pieces_laid id rest (InStep.left_out {b} {more} e s) = pieces_dropped id b (all_bytes more ++ rest) e ∙ ap (λ (l : List Piece). dropped b ∷ l) (pieces_laid id rest s)
pieces_laid id rest (InStep.taken {b} {bytes} {more} e n s) =
    let behind : List ℕ = all_bytes more ++ rest in
    let long : packet_length id ≤ length (b ∷ (bytes ++ behind)) = omega (arith, length-append bytes behind, n) in
    rw (append_assoc bytes (all_bytes more) rest)
    (pieces_packet id b (bytes ++ behind) e long
    ∙ rw (take_at (b ∷ bytes) behind (packet_length id) n, drop_at (b ∷ bytes) behind (packet_length id) n)
    (ap (λ (l : List Piece). packet (b ∷ bytes) ∷ l) (pieces_laid id rest s)))

pub pieces_of_short : (id : MouseId) {rest : List ℕ} → Short id rest → pieces id rest ≡ []
pieces_of_short id Short.none = pieces_nothing id
pieces_of_short id (Short.tail {b} {bytes} e n) = pieces_short id b bytes e n

-- ---- one way at least

pub record Split (id : MouseId) (bytes : List ℕ) : Type 0 where
  pub parts : List Piece
  pub rest : List ℕ
  pub right : InStep id parts
  pub whole : all_bytes parts ++ rest ≡ bytes
  pub short : Short id rest

module _ (id : MouseId) (b : ℕ) (bytes : List ℕ) where
  abbrev others : ℕ
  others = packet_length id - 1

  by_length : (long : Bool) → leb (packet_length id) (length (b ∷ bytes)) ≡ long → starts b ≡ true → Split id (drop others bytes) → Split id (b ∷ bytes)
  unfolding all_bytes
  by_length true l e s =
      let bound = packet_bound id in
      let n : length (b ∷ take others bytes) ≡ packet_length id =
      omega (arith, leb-true (packet_length id) (length (b ∷ bytes)) l, length-take-le others bytes (omega (arith, leb-true (packet_length id) (length (b ∷ bytes)) l)))
      in
      record {
        parts = packet (b ∷ take others bytes) ∷ s.parts;
        rest = s.rest;
        right = InStep.taken e n s.right;
        whole =
            ap (λ (l : List ℕ). b ∷ l)
            (append_assoc (take others bytes) (all_bytes s.parts) s.rest ∙ ap (λ (l : List ℕ). take others bytes ++ l) s.whole ∙ take-append-drop others bytes);
        short = s.short;
      }
  by_length false l e s = record { parts = []; rest = b ∷ bytes; right = InStep.nothing; whole = refl; short = Short.tail e (leb-false (packet_length id) (length (b ∷ bytes)) l) }

  by_start : (start : Bool) → starts b ≡ start → Split id bytes → Split id (drop others bytes) → Split id (b ∷ bytes)
  unfolding all_bytes
  by_start true e s t = by_length (leb (packet_length id) (length (b ∷ bytes))) refl e t
  by_start false e s t =
      record { parts = dropped b ∷ s.parts; rest = s.rest; right = InStep.left_out e s.right; whole = ap (λ (l : List ℕ). b ∷ l) s.whole; short = s.short }

split_next : (id : MouseId) (n : ℕ) (bytes : List ℕ) → length bytes ≤ n → ((shorter : List ℕ) → length shorter < n → Split id shorter) → Split id bytes
unfolding all_bytes
split_next id n [] h s = record { parts = []; rest = []; right = InStep.nothing; whole = refl; short = Short.none }
split_next id n (b ∷ bytes) h s = by_start id b bytes (starts b) refl (s bytes (omega arith)) (s (drop (packet_length id - 1) bytes) (rw length-drop (omega arith)))

split_within : (id : MouseId) (n : ℕ) (bytes : List ℕ) → length bytes ≤ n → Split id bytes
split_within id zero bytes h = split_next id zero bytes h (λ shorter l. absurd (omega arith))
split_within id (suc n) bytes h = split_next id (suc n) bytes h (λ shorter l. split_within id n shorter (omega arith))

pub split : (id : MouseId) (bytes : List ℕ) → Split id bytes
split id bytes = split_within id (length bytes) bytes (omega arith)

pub split_pieces : {id : MouseId} {bytes : List ℕ} (s : Split id bytes) → pieces id bytes ≡ s.parts
split_pieces {id} {bytes} s =
    ap (pieces id) (sym s.whole) ∙ pieces_laid id s.rest s.right ∙ ap (λ (l : List Piece). s.parts ++ l) (pieces_of_short id s.short) ∙ append-nil s.parts
