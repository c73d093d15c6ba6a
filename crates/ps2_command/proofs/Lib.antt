-- Laws of commands and searches.
pub mod Bounds
pub mod Refuses
pub mod Once
pub mod Search
pub mod Reset
pub mod Runs
pub mod Attempts
pub mod Replaced
pub mod Accepted
pub mod Worked
