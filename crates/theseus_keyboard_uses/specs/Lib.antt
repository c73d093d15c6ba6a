-- A queue of events for the Rust's handler.
pub mod Places
