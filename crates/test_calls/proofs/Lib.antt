-- Laws of handler calls and of steps in a row, and of calls on the record that lent numbers stand for.
pub mod Calls
pub mod Steps
pub mod WholeRecords
