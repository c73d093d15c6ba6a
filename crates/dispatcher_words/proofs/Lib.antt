-- The laws of a lent dispatcher's numbers.
pub mod Words
pub mod Named
pub mod Waits
pub mod Turns
pub mod Steps
pub mod Fresh
pub mod Runs
