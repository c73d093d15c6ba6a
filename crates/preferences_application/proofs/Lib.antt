-- Laws of the application.
pub mod Turns
pub mod Bytes
pub mod Listed
pub mod Sent
pub mod Steps
pub mod Outside
pub mod Refuses
pub mod Bounds
pub mod Worked
