-- The history rule through the dispatcher.
pub mod Told
pub mod Through
