-- Laws of the keyboard's operations.
pub mod Bounds
pub mod Refuses
pub mod Reset
pub mod NoSet
pub mod Turns
pub mod Worked
