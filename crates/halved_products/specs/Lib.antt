pub mod Calls
pub mod Conditions
pub mod Steps
