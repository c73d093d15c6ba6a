-- Laws of mouse packets.
pub mod Signed
pub mod Movement
pub mod Wheel
pub mod SignedWheel
pub mod Length
