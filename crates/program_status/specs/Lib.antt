-- The status that a program ends with.
pub mod Status
