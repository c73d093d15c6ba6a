-- Laws of the sides of the events that wait, and of things named with their sides.
pub mod Row
pub mod Named
