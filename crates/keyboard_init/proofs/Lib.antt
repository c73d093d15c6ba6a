-- Laws of keyboard initialisation.
pub mod Laws
pub mod Worked
