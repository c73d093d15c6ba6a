-- Closed runs of the read with a signed wheel, by computation.
use mathlib.Core.List.{[], ◌∷◌}
use mathlib.Core.Path.{◌≡◌, refl}
use lib.IntN.{pos, neg_ℤ}
use Rattle.exchange.specs.Exchange.{p60, bind, no_script, yields, lacks, played, play}
use Rattle.exchange.specs.Answer.{gives, and_then}
use Rattle.ps2_bytes.specs.declared.response.MouseId.TheVariants.{Four}
use Rattle.ps2_packet.specs.declared.MousePacket.{MousePacket}
use Rattle.ps2_packet.specs.declared.MousePacket.TheVariants as Packet
use Rattle.ps2_packet.specs.Packet.{packet4, wheel, signed_wheel, signed_packet}
use Rattle.ps2_packet.proofs.SignedWheel.{signed_examples}
use Rattle.ps2_packet_reading.specs.Reading.{read_mouse_packet, read_signed_packet}

-- the smallest packet on which the two reads differ: one step down
abbrev down : MousePacket
down = Packet.Four (packet4 0x08 0x00 0x00 0x0F)

pub signed_runs :
    (play (read_signed_packet Four) (0x08 ∷ 0x00 ∷ 0x00 ∷ 0x0F ∷ []) [] ≡ played (yields (gives (signed_packet down))) 4 0 [])
    × (signed_wheel down ≡ neg_ℤ (pos 1))
    × (wheel down ≡ pos 15)
    × (play (read_signed_packet Four) (0x08 ∷ 0xFF ∷ 0x00 ∷ []) [] ≡ played (lacks (no_script p60)) 3 0 [])
unfolding play bind and_then read_mouse_packet read_signed_packet
signed_runs = (refl, (signed_examples 0x08 0x00 0x00).0, refl, refl)
