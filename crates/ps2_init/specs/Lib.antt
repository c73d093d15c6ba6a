-- Initialisation of the controller.
pub mod Init
pub mod Ended
pub mod Answers
