-- The history rule over set 2.
pub mod SaidSet2
pub mod Turns
pub mod HistorySet2
pub mod Demanded
