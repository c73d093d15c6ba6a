-- Laws of typing.
pub mod Keys
pub mod ChosenOnce
pub mod Typable
pub mod Table
pub mod KeyTable
pub mod Texts
pub mod Joining
pub mod Lengths
pub mod Answered
pub mod Counting
pub mod Putting
pub mod Writing
pub mod Worked
