-- The history rule through the dispatcher, proved.
pub mod Through
