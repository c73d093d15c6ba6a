-- Scan code set 2, and its conversion to set 1.
pub mod Table
pub mod Set2
pub mod Codes
pub mod Convert
pub mod Stops
