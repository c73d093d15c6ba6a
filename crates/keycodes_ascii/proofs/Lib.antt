-- Laws of keycodes, characters and their table.
pub mod Codes
pub mod Chars
pub mod CharacterTable
pub mod CharacterPage
