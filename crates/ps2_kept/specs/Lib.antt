-- Bytes that an operation threw away.
pub mod Thrown
pub mod Kept
pub mod Added
pub mod Promises
