pub mod Copies
pub mod Wraps
