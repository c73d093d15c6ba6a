-- What an operation on the ports means.
pub mod Exchange
pub mod Answer
pub mod Repeat
pub mod Trace
pub mod Sequence
pub mod Parts
pub mod Position
pub mod Cut
pub mod Bounds
pub mod Only
pub mod Refuses
pub mod Left
pub mod Attains
pub mod Sends
pub mod Keeping
pub mod Search
