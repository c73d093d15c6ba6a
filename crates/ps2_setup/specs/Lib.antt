-- The steps of initialisation that concern the controller alone.
pub mod SetUp
pub mod Configuration
pub mod Answers
