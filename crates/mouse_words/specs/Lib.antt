-- The mouse's operations by numbers.
pub mod Arguments
pub mod Left
