-- Operations on the ports as talks.
pub mod Talk
pub mod Heard
pub mod Commands
pub mod Keyboard
pub mod Mouse
pub mod Controller
pub mod Application
