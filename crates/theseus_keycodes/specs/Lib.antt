-- The Rust's flags, keycodes and events, and ours.
pub mod Flags
pub mod Keycode
pub mod Events
