-- Laws of salvaging.
pub mod Pieces
pub mod Output
pub mod Written
pub mod Going
pub mod Split
pub mod Fitting
pub mod Rules
pub mod Unique
pub mod FoundAgain
pub mod Together
pub mod Joining
pub mod Limits
pub mod Worked
