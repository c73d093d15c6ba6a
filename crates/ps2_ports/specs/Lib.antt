-- The registers as operations on the ports.
pub mod Ports
