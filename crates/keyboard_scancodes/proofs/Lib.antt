-- Laws of single scancodes.
pub mod Tests
pub mod Flags
pub mod Masks
pub mod Silent
pub mod Untouched
pub mod Keycodes
pub mod LampBits
pub mod Waiting
pub mod Tournament
pub mod KeyMasks
pub mod Plain
