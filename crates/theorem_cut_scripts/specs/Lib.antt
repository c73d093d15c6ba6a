-- Scripts that are cut short.
pub mod CutShort
pub mod Forms
pub mod SoFar
pub mod Room
pub mod Coded
pub mod Words
pub mod Told
