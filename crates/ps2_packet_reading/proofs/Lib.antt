-- Laws of the reading of packets.
pub mod Bounds
pub mod Packet
pub mod PacketReads
pub mod Alike
pub mod SignedWheelAlone
pub mod Worked
