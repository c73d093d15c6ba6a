-- Calls for tests and measuring alone.
pub mod Arguments
pub mod Polling
pub mod Devices
pub mod Calls
pub mod Steps
pub mod Records
