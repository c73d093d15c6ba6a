-- Laws of the renumbering and of keycodes, and the characters under the Rust's flags.
pub mod Renumbered
pub mod Operations
pub mod Keycodes
pub mod Characters
pub mod Questions
