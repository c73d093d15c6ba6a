-- Mouse packets.
pub mod Signed
pub mod Packet
pub mod Packets
pub mod SignedWheel
