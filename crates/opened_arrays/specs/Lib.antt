pub mod Answers
pub mod Openings
