-- Same hands, same flags.
pub mod SameHands
pub mod Through
pub mod Witness
pub mod WitnessThrough
pub mod Rated
pub mod Dropped
