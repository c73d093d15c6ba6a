-- Keyboard initialisation.
pub mod KeyboardInit
