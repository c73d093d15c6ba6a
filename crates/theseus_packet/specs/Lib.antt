-- The Rust's mouse packets.
pub mod Packets
