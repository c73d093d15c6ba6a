-- Operations that are run a byte at a time.
pub mod Operations
pub mod Memory
pub mod Rounds
