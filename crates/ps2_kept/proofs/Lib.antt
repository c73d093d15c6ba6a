-- Laws of kept bytes.
pub mod Added
pub mod Thrown
pub mod Made
pub mod Contracts
pub mod Sequence
pub mod Then
