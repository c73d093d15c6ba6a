-- The sides of a table, and of the events that wait.
pub mod Sides
pub mod Named
