-- Laws of the detection.
pub mod Bounds
pub mod Refuses
pub mod Detection
pub mod Turns
pub mod Worked
