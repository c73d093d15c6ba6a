-- Refusals by number, and what the answers say of a play's end.
pub mod Refusals
pub mod Answers
