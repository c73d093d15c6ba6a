-- A packet is read from just its bytes, in their order; from fewer it is not.
use Prim.Native.Nat.{ℕ, ◌<◌}
use native.Mathlib.Omega.{arith}
use mathlib.Core.List.{List, [], ◌∷◌}
use mathlib.Core.Path.{◌≡◌, refl}
use lib.ListN.{length}
use Rattle.exchange.specs.Exchange.{p60, Exchange, read, bind, no_script, yields, lacks, played, play}
use Rattle.exchange.specs.Answer.{gives, and_then}
use Rattle.ps2_bytes.specs.declared.response.MouseId.{MouseId}
use Rattle.ps2_bytes.specs.declared.response.MouseId.TheVariants as Identity
use Rattle.ps2_packet.specs.declared.MousePacket.{MousePacket}
use Rattle.ps2_packet.specs.declared.MousePacket.TheVariants.{Zero, Three, Four}
use Rattle.ps2_packet.specs.Packet.{packet_id, packet_bytes, packet_length, signed_packet}
use Rattle.ps2_packet_reading.specs.Reading.{three_bytes, read_mouse_packet, read_signed_packet}

pub read_packet : (p : MousePacket) (l : List ℕ) → play (read_mouse_packet (packet_id p)) (packet_bytes p) l ≡ played (yields (gives p)) (packet_length (packet_id p)) 0 l
unfolding play read_mouse_packet
read_packet (Zero p) l = refl
read_packet (Three p) l = refl
read_packet (Four p) l = refl

pub read_signed_packet_lem : (p : MousePacket) (l : List ℕ)
    → play (read_signed_packet (packet_id p)) (packet_bytes p) l ≡ played (yields (gives (signed_packet p))) (packet_length (packet_id p)) 0 l
unfolding play bind and_then read_mouse_packet read_signed_packet
read_signed_packet_lem (Zero p) l = refl
read_signed_packet_lem (Three p) l = refl
read_signed_packet_lem (Four p) l = refl

-- ---- a script that ends inside the packet: what was read of it counts as used

cut_three : {A : Type 0} (next : ℕ → ℕ → ℕ → Exchange A) (s l : List ℕ) → length s < 3 → play (three_bytes next) s l ≡ played (lacks (no_script p60)) (length s) 0 l
unfolding play
cut_three next [] l h = refl
cut_three next (b1 ∷ []) l h = refl
cut_three next (b1 ∷ b2 ∷ []) l h = refl
cut_three next (b1 ∷ b2 ∷ b3 ∷ s) l h = absurd (omega arith)

cut_four : {A : Type 0} (next : ℕ → ℕ → ℕ → ℕ → Exchange A) (s l : List ℕ) → length s < 4
    → play (three_bytes (λ b1 b2 b3. read p60 (next b1 b2 b3))) s l ≡ played (lacks (no_script p60)) (length s) 0 l
unfolding play
cut_four next [] l h = refl
cut_four next (b1 ∷ []) l h = refl
cut_four next (b1 ∷ b2 ∷ []) l h = refl
cut_four next (b1 ∷ b2 ∷ b3 ∷ []) l h = refl
cut_four next (b1 ∷ b2 ∷ b3 ∷ b4 ∷ s) l h = absurd (omega arith)

pub cut_signed_packet : (id : MouseId) (s l : List ℕ) → length s < packet_length id
    → play (read_signed_packet id) s l ≡ played (lacks (no_script p60)) (length s) 0 l
unfolding bind and_then read_mouse_packet read_signed_packet
cut_signed_packet Identity.Zero s l h = cut_three _ s l h
cut_signed_packet Identity.Three s l h = cut_four _ s l h
cut_signed_packet Identity.Four s l h = cut_four _ s l h
