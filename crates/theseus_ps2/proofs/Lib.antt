-- Lemmas.
pub mod Run
pub mod Polling
pub mod Command
pub mod Exit
pub mod Recorded
pub mod Noted
pub mod Paired
pub mod Agreed
pub mod SelfTest
pub mod Detect
pub mod PortTest
pub mod MouseIdentity
pub mod SetIdentity
pub mod SetUp
pub mod Packet
