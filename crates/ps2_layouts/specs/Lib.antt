-- The bits of the status, the configuration and the LEDs.
pub mod Status
pub mod Configuration
pub mod Leds
