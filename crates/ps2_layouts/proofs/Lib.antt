-- Laws of the bytes' bits.
pub mod LampByte
