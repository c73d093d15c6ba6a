-- Scan code set 1.
pub mod Set1
