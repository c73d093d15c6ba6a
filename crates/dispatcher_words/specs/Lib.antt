-- The dispatcher's state as numbers, and what a step on the numbers means.
pub mod Layout
pub mod Words
pub mod Steps
pub mod Fresh
pub mod Parts
pub mod Runs
