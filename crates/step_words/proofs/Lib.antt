-- Laws of what is kept of an operation.
pub mod Sessions
pub mod Keeps
pub mod Left
pub mod Seams
