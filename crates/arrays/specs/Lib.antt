pub mod Arrays
pub mod Conditions
