-- The handler record as numbers, and what calls on the numbers mean.
pub mod Layout
pub mod Words
pub mod Arguments
pub mod Calls
pub mod Parts
pub mod Runs
pub mod Records
