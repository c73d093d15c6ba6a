-- What a run on a recording is answered by is what its operation's play is told by.
pub mod Recorded
pub mod Left
pub mod Interrupts
pub mod Texts
