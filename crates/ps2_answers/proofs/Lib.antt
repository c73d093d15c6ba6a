-- Laws of refusals, and of one operation after another.
pub mod Refusals
pub mod Then
pub mod Reading
pub mod Forgiving
