-- Reports over sessions.
pub mod Adding
pub mod Mean
pub mod Narrow
pub mod Runs
pub mod Sessions
pub mod Within
-- What a session brings to a report.
pub mod Keys
pub mod Events
pub mod Packets
pub mod Totals
pub mod Whole
-- The report in 64 bits.
pub mod Long
pub mod Widened
