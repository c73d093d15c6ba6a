-- Typed text, read by the handler.
pub mod Fed
pub mod Played
