-- What the Rust's handler does.
pub mod Handler
pub mod Both
pub mod Alone
