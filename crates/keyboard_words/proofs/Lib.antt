-- The laws of the keyboard's operations by numbers.
pub mod Arguments
pub mod Initialized
