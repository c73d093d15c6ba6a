-- The reading of a mouse's packets.
pub mod Reading
pub mod Alike
