-- `set_mouse_id`.
pub mod Identity
pub mod Kept
pub mod Answers
