-- What scancodes say by themselves: strokes, flags, lamps and events; and the bytes that wait.
pub mod Strokes
pub mod FlagTable
pub mod Profile
pub mod FlagsAfter
pub mod Lamps
pub mod Events
pub mod Plain
pub mod Waiting
pub mod Remembered
