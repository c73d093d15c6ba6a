-- What is counted and summed over two lists, one behind the other.
use mathlib.Core.Path.{◌≡◌, ap, sym, ◌∙◌}
use mathlib.Core.List.{List, [], ◌∷◌, ◌++◌}
use Prim.Native.Nat.{ℕ, ◌+◌}
use native.Mathlib.Omega.{arith}
use lib.IntN.{ℤ, ◌+ℤ◌, +ℤ_assoc, +ℤ_idl}
use lib.ListN.{length, length-append}
use Rattle.ps2_bytes.specs.declared.response.MouseId.{MouseId}
use Rattle.ps2_packet.specs.declared.MousePacketGeneric.{MousePacketGeneric}
use Rattle.ps2_packet.specs.declared.MousePacket.{MousePacket}
use Rattle.ps2_packet.specs.Packet.{common, x_movement, y_movement}
use Rattle.report.specs.Events.{presses}
use Rattle.ps2_packet.specs.Packets.{packets_of, bytes_of}
use Rattle.report.specs.Packets.{sum_of}
use Rattle.report.proofs.Whole.{packets_joined}

pub joined_presses : (key : ℕ) (a b : List ℕ) → presses key (a ++ b) ≡ presses key a + presses key b
unfolding presses
joined_presses key [] b = omega arith
joined_presses key (c ∷ a) b = omega (arith, joined_presses key a b)

sum_joined : (f : MousePacketGeneric → ℤ) (a b : List MousePacket) → sum_of f (a ++ b) ≡ sum_of f a +ℤ sum_of f b
unfolding sum_of
sum_joined f [] b = sym (+ℤ_idl (sum_of f b))
sum_joined f (p ∷ a) b = ap (λ (z : ℤ). f (common p) +ℤ z) (sum_joined f a b) ∙ sym (+ℤ_assoc (f (common p)) (sum_of f a) (sum_of f b))

module _ (id id' : MouseId) (a b : List ℕ) (e : id ≡ id') where
  joined : packets_of id (bytes_of (packets_of id a) ++ b) ≡ packets_of id a ++ packets_of id' b
  joined = packets_joined id a b ∙ ap (λ (i : MouseId). packets_of id a ++ packets_of i b) e

  pub joined_packets : length (packets_of id (bytes_of (packets_of id a) ++ b)) ≡ length (packets_of id a) + length (packets_of id' b)
  joined_packets = ap length joined ∙ length-append (packets_of id a) (packets_of id' b)

  joined_sum : (f : MousePacketGeneric → ℤ) → sum_of f (packets_of id (bytes_of (packets_of id a) ++ b)) ≡ sum_of f (packets_of id a) +ℤ sum_of f (packets_of id' b)
  joined_sum f = ap (sum_of f) joined ∙ sum_joined f (packets_of id a) (packets_of id' b)

  pub joined_x : sum_of x_movement (packets_of id (bytes_of (packets_of id a) ++ b)) ≡ sum_of x_movement (packets_of id a) +ℤ sum_of x_movement (packets_of id' b)
  joined_x = joined_sum x_movement

  pub joined_y : sum_of y_movement (packets_of id (bytes_of (packets_of id a) ++ b)) ≡ sum_of y_movement (packets_of id a) +ℤ sum_of y_movement (packets_of id' b)
  joined_y = joined_sum y_movement
