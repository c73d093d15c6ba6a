-- What the program tablekeys prints.
pub mod Text
pub mod Lines
pub mod Listing
pub mod Listed
