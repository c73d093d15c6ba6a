-- The laws of the library's functions together.
pub mod Events
