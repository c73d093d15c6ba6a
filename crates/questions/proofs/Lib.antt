-- Laws of questions.
pub mod Steps
