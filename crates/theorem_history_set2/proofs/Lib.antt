-- The history rule over set 2.
pub mod Says
pub mod Alike
pub mod Turns
pub mod HistorySet2
pub mod KeyboardHistorySet2
pub mod Meaning
pub mod Worked
