-- Preferences as numbers.
pub mod Record
pub mod Writing
pub mod Reading
