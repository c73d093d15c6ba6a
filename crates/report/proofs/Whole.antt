-- The packets of some bytes are the bytes, but for a short tail; and joined at a packet's end they are joined.
use mathlib.Core.Path.{◌≡◌, refl, ap}
use mathlib.Core.List.{List, [], ◌∷◌, ◌++◌, append_assoc}
use Prim.Native.Nat.{ℕ, ◌<◌}
use native.Mathlib.Omega.{arith}
use lib.ListN.{length}
use Rattle.ps2_bytes.specs.declared.response.MouseId.{MouseId}
use Rattle.ps2_bytes.specs.declared.response.MouseId.TheVariants as Identity
use Rattle.ps2_packet.specs.declared.MousePacket.{MousePacket}
use Rattle.ps2_packet.specs.declared.MousePacket.TheVariants.{Zero, Three, Four}
use Rattle.ps2_packet.specs.Packet.{generic, packet_id, packet_bytes, packet_length}
use Rattle.ps2_packet.specs.Packets.{by_threes, by_fours, packets_of, bytes_of}
use Rattle.report.specs.Whole.{Of, none, and, Whole}

module _ {id : MouseId} {bytes : List ℕ} {packets : List MousePacket} where
  longer : (front : List ℕ) (p : MousePacket) → packet_id p ≡ id → bytes_of (p ∷ packets) ≡ front ++ bytes_of packets → Whole id bytes packets → Whole id (front ++ bytes) (p ∷ packets)
  longer front p e b w =
      record {
        kind = and e w.kind;
        tail = w.tail;
        short = w.short;
        all = rw (b, append_assoc front (bytes_of packets) w.tail, w.all);
      }

nothing : (id : MouseId) (bytes : List ℕ) → length bytes < packet_length id → Whole id bytes []
unfolding bytes_of
nothing id bytes h = record { kind = none; tail = bytes; short = h; all = refl }

threes_whole : (l : List ℕ) → Whole Identity.Zero l (by_threes l)
unfolding by_threes bytes_of
threes_whole [] = nothing Identity.Zero [] (omega arith)
threes_whole (a ∷ []) = nothing Identity.Zero (a ∷ []) (omega arith)
threes_whole (a ∷ b ∷ []) = nothing Identity.Zero (a ∷ b ∷ []) (omega arith)
threes_whole (a ∷ b ∷ c ∷ l) = longer (a ∷ b ∷ c ∷ []) (Zero (generic a b c)) refl refl (threes_whole l)

fours_whole : (id : MouseId) (f : ℕ → ℕ → ℕ → ℕ → MousePacket) → packet_length id ≡ 4 → ((a b c d : ℕ) → packet_id (f a b c d) ≡ id) → ((a b c d : ℕ) → packet_bytes (f a b c d) ≡ a ∷ b ∷ c ∷ d ∷ [])
    → (l : List ℕ) → Whole id l (by_fours f l)
unfolding by_fours bytes_of
fours_whole id f n e b [] = nothing id [] (omega arith)
fours_whole id f n e b (x ∷ []) = nothing id (x ∷ []) (omega arith)
fours_whole id f n e b (x ∷ y ∷ []) = nothing id (x ∷ y ∷ []) (omega arith)
fours_whole id f n e b (x ∷ y ∷ z ∷ []) = nothing id (x ∷ y ∷ z ∷ []) (omega arith)
fours_whole id f n e b (x ∷ y ∷ z ∷ w ∷ l) =
    longer (x ∷ y ∷ z ∷ w ∷ []) (f x y z w) (e x y z w) (ap (λ (front : List ℕ). front ++ bytes_of (by_fours f l)) (b x y z w)) (fours_whole id f n e b l)

pub packets_whole : (id : MouseId) (bytes : List ℕ) → Whole id bytes (packets_of id bytes)
packets_whole Identity.Zero bytes = threes_whole bytes
packets_whole Identity.Three bytes = fours_whole Identity.Three _ refl (λ a b c d. refl) (λ a b c d. refl) bytes
packets_whole Identity.Four bytes = fours_whole Identity.Four _ refl (λ a b c d. refl) (λ a b c d. refl) bytes

-- ---- read again

-- packets of an identity, with bytes behind them, are read as they are
pub packets_front : (id : MouseId) (packets : List MousePacket) → Of id packets → (more : List ℕ) → packets_of id (bytes_of packets ++ more) ≡ packets ++ packets_of id more
unfolding by_threes by_fours bytes_of
packets_front Identity.Zero packets k more = go packets k
  where
    go : (ps : List MousePacket) → Of Identity.Zero ps → by_threes (bytes_of ps ++ more) ≡ ps ++ by_threes more
    go [] none = refl
    go (Zero p ∷ ps) (and e k) = ap (λ (l : List MousePacket). Zero p ∷ l) (go ps k)
    go (Three p ∷ ps) (and e k) = absurd (let n : ◌≡◌ {A = ℕ} 0 1 = cc in omega arith)
    go (Four p ∷ ps) (and e k) = absurd (let n : ◌≡◌ {A = ℕ} 0 1 = cc in omega arith)
packets_front Identity.Three packets k more = go packets k
  where
    go : (ps : List MousePacket) → Of Identity.Three ps → packets_of Identity.Three (bytes_of ps ++ more) ≡ ps ++ packets_of Identity.Three more
    go [] none = refl
    go (Three p ∷ ps) (and e k) = ap (λ (l : List MousePacket). Three p ∷ l) (go ps k)
    go (Zero p ∷ ps) (and e k) = absurd (let n : ◌≡◌ {A = ℕ} 0 1 = cc in omega arith)
    go (Four p ∷ ps) (and e k) = absurd (let n : ◌≡◌ {A = ℕ} 0 1 = cc in omega arith)
packets_front Identity.Four packets k more = go packets k
  where
    go : (ps : List MousePacket) → Of Identity.Four ps → packets_of Identity.Four (bytes_of ps ++ more) ≡ ps ++ packets_of Identity.Four more
    go [] none = refl
    go (Four p ∷ ps) (and e k) = ap (λ (l : List MousePacket). Four p ∷ l) (go ps k)
    go (Zero p ∷ ps) (and e k) = absurd (let n : ◌≡◌ {A = ℕ} 0 1 = cc in omega arith)
    go (Three p ∷ ps) (and e k) = absurd (let n : ◌≡◌ {A = ℕ} 0 1 = cc in omega arith)

-- "joined at packet boundaries"
pub packets_joined : (id : MouseId) (a b : List ℕ) → packets_of id (bytes_of (packets_of id a) ++ b) ≡ packets_of id a ++ packets_of id b
packets_joined id a b = packets_front id (packets_of id a) (packets_whole id a).kind b
