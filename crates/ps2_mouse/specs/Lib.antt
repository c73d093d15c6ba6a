-- The mouse's operations.
pub mod Mouse
pub mod Answers
