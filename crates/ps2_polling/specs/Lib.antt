-- Polling, and the controller's tests.
pub mod Polling
pub mod Silence
pub mod Received
