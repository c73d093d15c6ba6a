-- What a handler call means, and what the code's answers say.
pub mod Rules
pub mod Scancode
pub mod Byte
pub mod Handler
pub mod KeyboardLamps
pub mod Answers
pub mod Outcomes
pub mod OtherSide
