-- The bytes of the controller and its devices.
pub mod Commands
pub mod Responses
pub mod Data
pub mod Writable
