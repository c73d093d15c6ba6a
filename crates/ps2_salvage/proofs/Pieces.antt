-- What the next piece of a recording is.
use mathlib.Core.Bool.{true, false, cond}
use mathlib.Core.Logic.{◌⊎◌, inl, inr}
use mathlib.Core.Path.{◌≡◌, refl, ap, ap₂, sym, ◌∙◌}
use mathlib.Core.List.{List, [], ◌∷◌}
use Prim.Native.Nat.{ℕ, zero, suc, ◌+◌, ◌-◌, ◌≤◌, ◌<◌}
use native.Mathlib.Numerals.{add-one}
use native.Mathlib.Omega.{arith}
use lib.ListN.{length, get_or, take, drop, length-drop, drop_of_length-le}
use lib.Seq.{drop-cons, drop-drop}
use lib.Dec.{leb}
use borrow.Author.Tests.{le-leb, lt-leb}
use Rattle.ps2_bytes.specs.declared.response.MouseId.{MouseId}
use Rattle.ps2_bytes.specs.declared.response.MouseId.TheVariants.{Zero, Three, Four}
use Rattle.ps2_packet.specs.Packet.{packet_length}
use Rattle.ps2_salvage.specs.Pieces.{Piece, packet, dropped, starts, pieces_after, pieces}

-- ---- by the bytes

pub pieces_after_lem : (id : MouseId) (others : ℕ) (bytes : List ℕ) → pieces_after id others bytes ≡ pieces id (drop others bytes)
unfolding pieces_after
pieces_after_lem id zero bytes = refl
pieces_after_lem id (suc others) [] = refl
pieces_after_lem id (suc others) (b ∷ bytes) = pieces_after_lem id others bytes

pub pieces_nothing : (id : MouseId) → pieces id [] ≡ []
unfolding pieces_after
pieces_nothing id = refl

pub pieces_dropped : (id : MouseId) (b : ℕ) (bytes : List ℕ) → starts b ≡ false → pieces id (b ∷ bytes) ≡ dropped b ∷ pieces id bytes
unfolding pieces_after
pieces_dropped id b bytes e = rw e

pub pieces_short : (id : MouseId) (b : ℕ) (bytes : List ℕ) → starts b ≡ true → length (b ∷ bytes) < packet_length id → pieces id (b ∷ bytes) ≡ []
unfolding pieces_after
pieces_short id b bytes e h = rw (e, lt-leb (packet_length id) (length (b ∷ bytes)) h)

-- a packet has a first byte, and at most three others
pub packet_bound : (id : MouseId) → (0 < packet_length id) × (packet_length id ≤ 4)
packet_bound Zero = (omega arith, omega arith)
packet_bound Three = (omega arith, omega arith)
packet_bound Four = (omega arith, omega arith)

others_drop : (id : MouseId) (b : ℕ) (bytes : List ℕ) → drop (packet_length id - 1) bytes ≡ drop (packet_length id) (b ∷ bytes)
others_drop Zero b bytes = refl
others_drop Three b bytes = refl
others_drop Four b bytes = refl

pub pieces_packet : (id : MouseId) (b : ℕ) (bytes : List ℕ) → starts b ≡ true → packet_length id ≤ length (b ∷ bytes)
    → pieces id (b ∷ bytes) ≡ packet (take (packet_length id) (b ∷ bytes)) ∷ pieces id (drop (packet_length id) (b ∷ bytes))
unfolding pieces_after
pieces_packet id b bytes e h =
    rw (e, le-leb (packet_length id) (length (b ∷ bytes)) h)
    (ap (λ (l : List Piece). packet (take (packet_length id) (b ∷ bytes)) ∷ l) (pieces_after_lem id (packet_length id - 1) bytes ∙ ap (pieces id) (others_drop id b bytes)))

-- a mouse of identity 3 has packets as long as one of identity 4
three_four : (others : ℕ) (bytes : List ℕ) → pieces_after Three others bytes ≡ pieces_after Four others bytes
unfolding pieces_after
three_four others [] = refl
three_four (suc others) (b ∷ bytes) = three_four others bytes
three_four zero (b ∷ bytes) =
    ap₂ (λ (p q : List Piece). cond (starts b) (cond (leb 4 (length (b ∷ bytes))) (packet (take 4 (b ∷ bytes)) ∷ p) []) (dropped b ∷ q)) (three_four 3 bytes) (three_four 0 bytes)

pub pieces_of_four : (id : MouseId) → (id ≡ Three) ⊎ (id ≡ Four) → (bytes : List ℕ) → pieces id bytes ≡ pieces Four bytes
pieces_of_four id (inl e) bytes = ap (λ (j : MouseId). pieces j bytes) e ∙ three_four 0 bytes
pieces_of_four id (inr e) bytes = ap (λ (j : MouseId). pieces j bytes) e

-- ---- from a position on

module _ (id : MouseId) (bytes : List ℕ) (at : ℕ) where
  pub at_end : length bytes ≤ at → pieces id (drop at bytes) ≡ []
  at_end h = ap (pieces id) (drop_of_length-le bytes h) ∙ pieces_nothing id

  pub at_dropped : at < length bytes → starts (get_or bytes at 0) ≡ false → pieces id (drop at bytes) ≡ dropped (get_or bytes at 0) ∷ pieces id (drop (at + 1) bytes)
  at_dropped h e = ap (pieces id) (drop-cons bytes at 0 h) ∙ pieces_dropped id (get_or bytes at 0) (drop (suc at) bytes) e ∙ rw (add-one at)

  -- what is left, from the first byte on
  left : at < length bytes → length bytes - at ≡ length (get_or bytes at 0 ∷ drop (suc at) bytes)
  left h = sym (length-drop at bytes) ∙ ap length (drop-cons bytes at 0 h)

  pub at_short : at < length bytes → starts (get_or bytes at 0) ≡ true → length bytes < at + packet_length id → pieces id (drop at bytes) ≡ []
  at_short h e s = ap (pieces id) (drop-cons bytes at 0 h) ∙ pieces_short id (get_or bytes at 0) (drop (suc at) bytes) e (omega (arith, left h))

  pub at_packet : at < length bytes → starts (get_or bytes at 0) ≡ true → at + packet_length id ≤ length bytes
      → pieces id (drop at bytes) ≡ packet (take (packet_length id) (drop at bytes)) ∷ pieces id (drop (at + packet_length id) bytes)
  at_packet h e s =
      let first = drop-cons bytes at 0 h in
      ap (pieces id) first ∙ pieces_packet id (get_or bytes at 0) (drop (suc at) bytes) e (omega (arith, left h))
      ∙ rw (← first, drop-drop (packet_length id) at bytes)
