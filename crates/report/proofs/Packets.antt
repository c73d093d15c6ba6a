-- The packets of some bytes: the next one at a place, and none where the bytes are too few.
use mathlib.Core.Path.{◌≡◌, refl, ap, ◌∙◌}
use mathlib.Core.List.{List, [], ◌∷◌}
use Prim.Native.Nat.{ℕ, suc, ◌+◌, ◌*◌, ◌/◌, ◌≤◌, ◌<◌}
use native.Mathlib.Omega.{arith}
use lib.ListN.{length, get_or, drop, length-drop}
use lib.Seq.{drop-cons}
use Rattle.ps2_bytes.specs.declared.response.MouseId.{MouseId}
use Rattle.ps2_bytes.specs.declared.response.MouseId.TheVariants as Identity
use Rattle.ps2_packet.specs.declared.MousePacket.{MousePacket}
use Rattle.ps2_packet.specs.declared.MousePacket.TheVariants.{Zero, Three, Four}
use Rattle.ps2_packet.specs.Packet.{generic, packet3, packet4, common, packet_length}
use Rattle.ps2_packet.specs.Packets.{by_threes, by_fours, packets_of}
use Rattle.report.specs.Totals.{tally_bytes}

-- a packet has 3 bytes or more
pub length_low : (id : MouseId) → 3 ≤ packet_length id
length_low Identity.Zero = omega arith
length_low Identity.Three = omega arith
length_low Identity.Four = omega arith

-- a whole packet is ahead where fewer were passed than there are, and none where all were
pub whole_ahead : (id : MouseId) (n packets at : ℕ) → at ≡ packets * packet_length id → packets < n / packet_length id → at + packet_length id ≤ n
whole_ahead Identity.Zero n packets at e h = omega arith
whole_ahead Identity.Three n packets at e h = omega arith
whole_ahead Identity.Four n packets at e h = omega arith

pub none_ahead : (id : MouseId) (n packets at : ℕ) → at ≡ packets * packet_length id → n / packet_length id ≤ packets → n < at + packet_length id
none_ahead Identity.Zero n packets at e h = omega arith
none_ahead Identity.Three n packets at e h = omega arith
none_ahead Identity.Four n packets at e h = omega arith

next : (l : List ℕ) (i j : ℕ) → j ≡ i + 1 → i < length l → drop i l ≡ get_or l i 0 ∷ drop j l
next l i j e h = let s : suc i ≡ j = omega arith in drop-cons l i 0 h ∙ ap (λ (k : ℕ). get_or l i 0 ∷ drop k l) s

three : (l : List ℕ) (i : ℕ) → i + 3 ≤ length l → drop i l ≡ get_or l i 0 ∷ get_or l (i + 1) 0 ∷ get_or l (i + 2) 0 ∷ drop (i + 3) l
three l i h =
    next l i (i + 1) refl (omega arith)
    ∙ ap (λ (more : List ℕ). get_or l i 0 ∷ more) (next l (i + 1) (i + 2) (omega arith) (omega arith))
    ∙ ap (λ (more : List ℕ). get_or l i 0 ∷ get_or l (i + 1) 0 ∷ more) (next l (i + 2) (i + 3) (omega arith) (omega arith))

four : (l : List ℕ) (i : ℕ) → i + 4 ≤ length l
    → drop i l ≡ get_or l i 0 ∷ get_or l (i + 1) 0 ∷ get_or l (i + 2) 0 ∷ get_or l (i + 3) 0 ∷ drop (i + 4) l
four l i h =
    three l i (omega arith)
    ∙ ap (λ (more : List ℕ). get_or l i 0 ∷ get_or l (i + 1) 0 ∷ get_or l (i + 2) 0 ∷ more) (next l (i + 3) (i + 4) (omega arith) (omega arith))

-- the packet at a place, of which three bytes are known, and those behind it
pub record Next (id : MouseId) (bytes : List ℕ) (at : ℕ) : Type 0 where
  pub packet : MousePacket
  pub first : common packet ≡ generic (get_or bytes at 0) (get_or bytes (at + 1) 0) (get_or bytes (at + 2) 0)
  pub more : packets_of id (drop at bytes) ≡ packet ∷ packets_of id (drop (at + packet_length id) bytes)

pub next_packet : (id : MouseId) (bytes : List ℕ) (at : ℕ) → at + packet_length id ≤ length bytes → Next id bytes at
unfolding by_threes by_fours
next_packet Identity.Zero bytes at h = record { packet = Zero (generic _ _ _); first = refl; more = ap by_threes (three bytes at h) }
next_packet Identity.Three bytes at h =
    record { packet = Three (packet3 _ _ _ (get_or bytes (at + 3) 0)); first = refl; more = ap (by_fours (λ a b c d. Three (packet3 a b c d))) (four bytes at h) }
next_packet Identity.Four bytes at h =
    record { packet = Four (packet4 _ _ _ (get_or bytes (at + 3) 0)); first = refl; more = ap (by_fours (λ a b c d. Four (packet4 a b c d))) (four bytes at h) }

no_threes : (l : List ℕ) → length l < 3 → by_threes l ≡ []
unfolding by_threes
no_threes [] h = refl
no_threes (a ∷ []) h = refl
no_threes (a ∷ b ∷ []) h = refl
no_threes (a ∷ b ∷ c ∷ l) h = absurd (omega arith)

no_fours : (f : ℕ → ℕ → ℕ → ℕ → MousePacket) (l : List ℕ) → length l < 4 → by_fours f l ≡ []
unfolding by_fours
no_fours f [] h = refl
no_fours f (a ∷ []) h = refl
no_fours f (a ∷ b ∷ []) h = refl
no_fours f (a ∷ b ∷ c ∷ []) h = refl
no_fours f (a ∷ b ∷ c ∷ d ∷ l) h = absurd (omega arith)

-- "a last packet cut short is not counted"
pub no_packet : (id : MouseId) (l : List ℕ) → length l < packet_length id → packets_of id l ≡ []
no_packet Identity.Zero l h = no_threes l h
no_packet Identity.Three l h = no_fours _ l h
no_packet Identity.Four l h = no_fours _ l h

pub no_packet_at : (id : MouseId) (bytes : List ℕ) (at : ℕ) → length bytes < at + packet_length id → packets_of id (drop at bytes) ≡ []
no_packet_at id bytes at h = no_packet id (drop at bytes) (rw (length-drop at bytes) (omega (arith, length_low id)))

-- ---- as many packets as there are groups

threes_many : (l : List ℕ) → length l < 3 * (length (by_threes l) + 1)
unfolding by_threes
threes_many [] = omega arith
threes_many (a ∷ []) = omega arith
threes_many (a ∷ b ∷ []) = omega arith
threes_many (a ∷ b ∷ c ∷ l) = omega (arith, threes_many l)

fours_many : (f : ℕ → ℕ → ℕ → ℕ → MousePacket) (l : List ℕ) → length l < 4 * (length (by_fours f l) + 1)
unfolding by_fours
fours_many f [] = omega arith
fours_many f (a ∷ []) = omega arith
fours_many f (a ∷ b ∷ []) = omega arith
fours_many f (a ∷ b ∷ c ∷ []) = omega arith
fours_many f (a ∷ b ∷ c ∷ d ∷ l) = omega (arith, fours_many f l)

-- only a tail too short for a packet is left
pub packets_many : (id : MouseId) (l : List ℕ) → length l < packet_length id * (length (packets_of id l) + 1)
packets_many Identity.Zero l = threes_many l
packets_many Identity.Three l = fours_many _ l
packets_many Identity.Four l = fours_many _ l

-- a session that is too long to be summed has at least so many
pub too_long_many : (id : MouseId) (l : List ℕ) → tally_bytes ≤ length l → 4503599627370495 ≤ length (packets_of id l)
too_long_many Identity.Zero l h = omega (arith, threes_many l)
too_long_many Identity.Three l h = omega (arith, fours_many (λ a b c d. Three (packet3 a b c d)) l)
too_long_many Identity.Four l h = omega (arith, fours_many (λ a b c d. Four (packet4 a b c d)) l)
