-- Laws of the bytes.
pub mod CommandTables
pub mod ReadBack
