-- A session makes its operation's path.
pub mod Operations
pub mod Paths
pub mod Stepwise
-- Each operation's talk is the tree of its definition.
pub mod Trees
pub mod Waits
pub mod Keyboard
pub mod Mouse
pub mod Controller
pub mod Application
