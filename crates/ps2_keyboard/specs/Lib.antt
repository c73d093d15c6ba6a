-- The keyboard's operations.
pub mod Keyboard
pub mod Parts
