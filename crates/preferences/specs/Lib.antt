-- Preferences: the fields of a record, and their values.
pub mod Values
pub mod Record
-- Numbers coded as bytes.
pub mod Coding
pub mod NumberReading
pub mod NumberWriting
pub mod Coded
-- Preferences coded as bytes.
pub mod Format
pub mod Reading
pub mod Writing
pub mod Steps
pub mod Accepted
