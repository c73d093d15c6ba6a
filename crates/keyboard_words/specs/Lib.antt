-- The keyboard's operations by numbers.
pub mod Arguments
pub mod Operations
