-- The Rust's functions over any hardware.
pub mod Hardware
pub mod Ports
pub mod Controller
pub mod Messages
pub mod Recording
pub mod Comparison
pub mod Initialized
pub mod ScancodeSets
pub mod Record
