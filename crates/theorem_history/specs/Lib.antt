-- The history rule.
pub mod Past
pub mod Said
pub mod Counted
pub mod Waited
pub mod Row
pub mod Run
pub mod History
pub mod OwnEvents
pub mod Referees
pub mod NothingLost
pub mod Bytes
pub mod Examples
