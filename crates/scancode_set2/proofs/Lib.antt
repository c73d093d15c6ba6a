-- Laws of set 2 and of its conversion.
pub mod Table
pub mod Becomes
pub mod Codes
pub mod Progress
pub mod Bytes
pub mod Goes
pub mod Laws
pub mod Worked
