-- Laws of talks.
pub mod Attempts
pub mod Tables
