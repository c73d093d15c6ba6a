-- How the library's functions go together.
pub mod Events
