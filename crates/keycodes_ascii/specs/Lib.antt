-- Keycodes, the characters, and the columns and entries of their table.
pub mod Keycode
pub mod Characters
pub mod CharacterTable
