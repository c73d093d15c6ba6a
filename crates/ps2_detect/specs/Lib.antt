-- The detection of a keyboard's type.
pub mod Detection
pub mod Parts
pub mod Answers
pub mod Unrecognised
