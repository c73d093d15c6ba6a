-- The keycodes go by set 1.
pub mod Set1
