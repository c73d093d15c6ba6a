-- Laws of the steps that concern the controller alone.
pub mod Configuration
pub mod Trials
pub mod Writing
