-- Laws of the mouse's operations.
pub mod Bounds
pub mod Refuses
pub mod Reset
pub mod NoIdentity
pub mod Polls
pub mod Worked
