-- Same hands, same flags.
pub mod SameHands
pub mod Through
pub mod Examples
