-- The laws of the operations on bytes as numbers.
pub mod Keys
pub mod Known
pub mod Worked
