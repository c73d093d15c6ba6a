-- The handler's record, its queue and the taking from it.
pub mod Limits
pub mod Queue
pub mod Record
pub mod Taking
