-- Laws of `set_mouse_id`.
pub mod Bounds
pub mod Refuses
pub mod Identity
pub mod Record
pub mod Rates
pub mod Forgives
pub mod Worked
