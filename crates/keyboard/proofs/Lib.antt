-- Laws of a handler call: its courses and its ends, what refused calls leave, what waits after one, its bounds; and of a step by hand through a struct of many fields.
pub mod Ways
pub mod Courses
pub mod Waiting
pub mod Outcomes
pub mod Calls
pub mod Queued
pub mod Counted
pub mod Refused
pub mod Formed
pub mod Bounds
pub mod Effects
pub mod OtherSide
pub mod FieldOf
