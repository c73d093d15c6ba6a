-- Commands to a device, and searches for a byte.
pub mod Command
pub mod Answering
pub mod Search
pub mod Reset
pub mod Replaced
