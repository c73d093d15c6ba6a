-- The worked positions.
pub mod Positions
pub mod Table
pub mod Holds
