-- Text typed on a keyboard.
pub mod Keys
pub mod Chosen
pub mod Typing
pub mod Lengths
pub mod Table
pub mod Answered
pub mod Written
