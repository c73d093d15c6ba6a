-- Scripts that are cut short.
pub mod CutShort
pub mod Forms
pub mod SoFar
pub mod Room
pub mod Numbers
pub mod Coded
pub mod Answers
pub mod Entries
pub mod Words
pub mod Told
pub mod MouseLeft
pub mod KeyboardInit
pub mod Worked
