-- Preferences applied to the devices.
pub mod Settings
pub mod Sent
pub mod Application
