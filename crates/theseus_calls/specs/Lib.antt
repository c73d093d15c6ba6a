-- The Rust's functions on a script and a log, by numbers.
pub mod Recorded
pub mod Arguments
pub mod Operations
pub mod Left
pub mod Packets
pub mod Interrupts
