-- Laws of the initialisation.
pub mod Bounds
pub mod Ended
pub mod Attached
pub mod Resets
pub mod Record
pub mod Worked
