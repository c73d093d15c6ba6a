-- The laws of a lent record's numbers.
pub mod Bytes
pub mod Events
pub mod Passing
pub mod Words
pub mod Left
pub mod Calls
pub mod Alone
pub mod Plain
pub mod Taken
pub mod Fresh
pub mod Runs
pub mod WholeRecords
