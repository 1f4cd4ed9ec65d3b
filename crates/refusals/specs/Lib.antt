pub mod Outcomes
pub mod Numbers
