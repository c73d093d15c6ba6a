-- Typed text, read by the handler: what the bytes say, what the calls give, and the promise.
pub mod Keys
pub mod Bytes
pub mod Calls
pub mod TypingPlayed
pub mod KeyboardTypingPlayed
