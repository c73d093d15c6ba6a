-- Reports as numbers.
pub mod Words
