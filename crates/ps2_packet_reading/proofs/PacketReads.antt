-- The three bytes that every packet starts with, and what follows them at each identity: the reading of the packet.
use mathlib.Core.Path.{◌≡◌, refl}
use Rattle.exchange.specs.Exchange.{Exchange, done, bind}
use Rattle.exchange.specs.Answer.{Answer, gives, and_then}
use Rattle.ps2_bytes.specs.declared.response.MouseId.{MouseId}
use Rattle.ps2_bytes.specs.declared.response.MouseId.TheVariants.{Zero, Three, Four}
use Rattle.ps2_packet_reading.specs.declared.FirstBytes.{FirstBytes}
use Rattle.ps2_packet_reading.specs.Reading.{three_bytes, read_mouse_packet, first_bytes, after_three}

abbrev pub three : Exchange (Answer FirstBytes)
three = three_bytes (λ b1 b2 b3. done (gives (first_bytes b1 b2 b3)))

pub packet_three : (id : MouseId) → and_then three (after_three id) ≡ read_mouse_packet id
unfolding read_mouse_packet and_then bind
packet_three Zero = refl
packet_three Three = refl
packet_three Four = refl
