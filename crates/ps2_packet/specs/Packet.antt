-- Mouse packets: what their bits mean.
use Rattle.std.specs.Prelude.{Bool, false, cond, List, [], ◌∷◌, ◌++◌, ℕ, ◌%◌, ℤ, pos}
use Rattle.bits.specs.Bits.{bit}
use Rattle.ps2_packet.specs.Signed.{less_if, twos_complement}
use Rattle.ps2_bytes.specs.declared.response.MouseId.{MouseId}
use Rattle.ps2_bytes.specs.declared.response.MouseId.TheVariants as Identity
use Rattle.ps2_packet.specs.declared.MousePacketGeneric.{MousePacketGeneric}
use Rattle.ps2_packet.specs.declared.MousePacket3.{MousePacket3}
use Rattle.ps2_packet.specs.declared.MousePacket4.{MousePacket4}
use Rattle.ps2_packet.specs.declared.MousePacket.{MousePacket}
use Rattle.ps2_packet.specs.declared.MousePacket.TheVariants.{Zero, Three, Four}
use Rattle.ps2_packet.specs.declared.SignedPacket.{SignedPacket}

-- ---- byte 1, from bit 0 (the OSDev wiki's "PS/2 Mouse")

abbrev pub left_button : ℕ
left_button = 0

abbrev pub right_button : ℕ
right_button = 1

abbrev pub middle_button : ℕ
middle_button = 2

abbrev pub always_one : ℕ
always_one = 3

abbrev pub x_sign : ℕ
x_sign = 4

abbrev pub y_sign : ℕ
y_sign = 5

abbrev pub x_overflow : ℕ
x_overflow = 6

abbrev pub y_overflow : ℕ
y_overflow = 7

-- ---- byte 4 at identity 4: bits 0 to 3 are the wheel

abbrev pub button4 : ℕ
button4 = 4

abbrev pub button5 : ℕ
button5 = 5

-- ---- a packet from its bytes, in the order in which they come

abbrev pub generic : ℕ → ℕ → ℕ → MousePacketGeneric
generic b1 b2 b3 = record { byte1 = b1; byte2 = b2; byte3 = b3 }

abbrev pub packet3 : ℕ → ℕ → ℕ → ℕ → MousePacket3
packet3 b1 b2 b3 b4 = record { generic_part = generic b1 b2 b3; byte4 = b4 }

abbrev pub packet4 : ℕ → ℕ → ℕ → ℕ → MousePacket4
packet4 b1 b2 b3 b4 = record { generic_part = generic b1 b2 b3; byte4 = b4 }

-- ---- movement

-- A byte, or 255 on overflow: the value less 256 when the sign bit is set.
abbrev pub movement : Bool → Bool → ℕ → ℤ
movement overflow sign byte = less_if sign 256 (cond overflow 255 byte)

-- x is byte 2, y byte 3.
abbrev pub x_movement : MousePacketGeneric → ℤ
x_movement p = movement (bit x_overflow p.byte1) (bit x_sign p.byte1) p.byte2

abbrev pub y_movement : MousePacketGeneric → ℤ
y_movement p = movement (bit y_overflow p.byte1) (bit y_sign p.byte1) p.byte3

-- ---- wheel

-- Identity 3: byte 4 is a signed 8-bit wheel.
abbrev pub wheel3 : MousePacket3 → ℤ
wheel3 p = twos_complement 8 p.byte4

-- Identity 4: bits 0 to 3 are the wheel, 0 to 15.
abbrev pub wheel4 : MousePacket4 → ℤ
wheel4 p = pos (p.byte4 % 16)

-- The same bits as "the OSDev Wiki reads" them: "as signed, -8 to 7".
abbrev pub signed_wheel4 : MousePacket4 → ℤ
signed_wheel4 p = twos_complement 4 p.byte4

-- ---- a packet of any kind

-- The three bytes that all kinds share.
abbrev pub common : MousePacket → MousePacketGeneric
common (Zero p) = p
common (Three p) = p.generic_part
common (Four p) = p.generic_part

-- The wheel; at identity 0 it is 0.
abbrev pub wheel : MousePacket → ℤ
wheel (Zero p) = pos 0
wheel (Three p) = wheel3 p
wheel (Four p) = wheel4 p

-- The wheel of a packet whose four bits are read as signed, which "differs .. in this alone".
abbrev pub signed_wheel : MousePacket → ℤ
signed_wheel (Zero p) = wheel (Zero p)
signed_wheel (Three p) = wheel (Three p)
signed_wheel (Four p) = signed_wheel4 p

abbrev pub signed_packet : MousePacket → SignedPacket
signed_packet p = record { packet = p }

-- Button 4 or 5, which only identity 4 has.
abbrev pub side_button : ℕ → MousePacket → Bool
side_button k (Zero p) = false
side_button k (Three p) = false
side_button k (Four p) = bit k p.byte4

-- The identity that a kind of packet belongs to, and the bytes that come.
abbrev pub packet_id : MousePacket → MouseId
packet_id (Zero p) = Identity.Zero
packet_id (Three p) = Identity.Three
packet_id (Four p) = Identity.Four

abbrev pub generic_bytes : MousePacketGeneric → List ℕ
generic_bytes p = p.byte1 ∷ p.byte2 ∷ p.byte3 ∷ []

abbrev pub packet_bytes : MousePacket → List ℕ
packet_bytes (Zero p) = generic_bytes p
packet_bytes (Three p) = generic_bytes p.generic_part ++ (p.byte4 ∷ [])
packet_bytes (Four p) = generic_bytes p.generic_part ++ (p.byte4 ∷ [])

-- A packet is 3 bytes at identity 0, 4 at 3 and 4.
abbrev pub packet_length : MouseId → ℕ
packet_length Identity.Zero = 3
packet_length Identity.Three = 4
packet_length Identity.Four = 4
