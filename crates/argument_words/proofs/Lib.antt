-- The laws of arguments.
pub mod Identity
