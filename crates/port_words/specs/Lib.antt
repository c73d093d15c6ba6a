-- What port operations answer, as numbers.
pub mod Told
pub mod ToldKept
pub mod ToldPacket
pub mod ToldLeft
pub mod Tells
