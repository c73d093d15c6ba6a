-- Recorded mouse bytes, brought back into step.
pub mod Pieces
pub mod Salvage
pub mod Rules
pub mod Together
pub mod Joined
pub mod Limits
