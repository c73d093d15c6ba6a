-- What is kept of an operation that is run a byte at a time, in numbers.
pub mod Places
pub mod Arguments
pub mod Sessions
pub mod Steps
pub mod Whole
pub mod Reads
