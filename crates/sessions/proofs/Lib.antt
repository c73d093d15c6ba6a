-- Laws of operations that are run a byte at a time.
pub mod Ran
pub mod Rounds
pub mod Past
pub mod Room
