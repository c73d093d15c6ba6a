-- The laws of the mouse's operations by numbers.
pub mod Arguments
