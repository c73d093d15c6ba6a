-- The reading of a mouse's packet as a tree of its reads.
use Rattle.std.specs.Prelude.{ℕ}
use Rattle.exchange.specs.Exchange.{p60, Exchange, done, read}
use Rattle.exchange.specs.Answer.{Answer, gives, and_then}
use Rattle.ps2_bytes.specs.declared.response.MouseId.{MouseId}
use Rattle.ps2_bytes.specs.declared.response.MouseId.TheVariants.{Zero, Three, Four}
use Rattle.ps2_packet.specs.declared.MousePacket.{MousePacket}
use Rattle.ps2_packet.specs.declared.MousePacket.TheVariants as Packet
use Rattle.ps2_packet.specs.declared.SignedPacket.{SignedPacket}
use Rattle.ps2_packet.specs.Packet.{generic, packet3, packet4, signed_packet}
use Rattle.ps2_packet_reading.specs.declared.FirstBytes.{FirstBytes}
use Rattle.ps2_packet_reading.specs.declared.FourByteId.{FourByteId}

-- Three bytes of data, in the order in which they come.
abbrev pub three_bytes : {A : Type 0} → (ℕ → ℕ → ℕ → Exchange A) → Exchange A
three_bytes next = read p60 (λ b1. read p60 (λ b2. read p60 (λ b3. next b1 b2 b3)))

-- "A packet is 3 bytes at identity 0, 4 at 3 and 4, read without asking the status."
unfoldable pub read_mouse_packet : MouseId → Exchange (Answer MousePacket)
read_mouse_packet Zero = three_bytes (λ b1 b2 b3. done (gives (Packet.Zero (generic b1 b2 b3))))
read_mouse_packet Three =
    three_bytes (λ b1 b2 b3. read p60 (λ b4. done (gives (Packet.Three (packet3 b1 b2 b3 b4)))))
read_mouse_packet Four =
    three_bytes (λ b1 b2 b3. read p60 (λ b4. done (gives (Packet.Four (packet4 b1 b2 b3 b4)))))

-- "Add a packet read that differs from the Rust's in this
-- alone": the same packet is read, and its wheel is signed.
unfoldable pub read_signed_packet : MouseId → Exchange (Answer SignedPacket)
read_signed_packet id =
    and_then (read_mouse_packet id) (λ packet. done (gives (signed_packet packet)))

-- ---- parts of it that are functions of their own in the code

-- The bytes that every packet starts with, in the order in which they come.
abbrev pub first_bytes : ℕ → ℕ → ℕ → FirstBytes
first_bytes b1 b2 b3 = record { byte1 = b1; byte2 = b2; byte3 = b3 }

-- The packet that they are with a fourth.
abbrev pub four_bytes : FourByteId → FirstBytes → ℕ → MousePacket
four_bytes FourByteId.Three b b4 = Packet.Three (packet3 b.byte1 b.byte2 b.byte3 b4)
four_bytes FourByteId.Four b b4 = Packet.Four (packet4 b.byte1 b.byte2 b.byte3 b4)

abbrev pub fourth_byte : FourByteId → FirstBytes → Exchange (Answer MousePacket)
fourth_byte id b = read p60 (λ b4. done (gives (four_bytes id b b4)))

-- What follows them at each identity.
abbrev pub after_three : MouseId → FirstBytes → Exchange (Answer MousePacket)
after_three Zero b = done (gives (Packet.Zero (generic b.byte1 b.byte2 b.byte3)))
after_three Three b = fourth_byte FourByteId.Three b
after_three Four b = fourth_byte FourByteId.Four b
