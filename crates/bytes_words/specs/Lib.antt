-- The operations on bytes as numbers.
pub mod Keys
pub mod Outputs
pub mod Parts
