-- The laws of answers as numbers.
pub mod Tells
