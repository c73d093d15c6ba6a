-- The modifier flags.
pub mod Flags
