-- Questions to the ports, a byte at a time.
pub mod Asked
pub mod Steps
