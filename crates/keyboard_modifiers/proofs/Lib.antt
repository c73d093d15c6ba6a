-- Laws of the modifier flags.
pub mod Modifiers
