pub mod Operands
pub mod Tested
pub mod Storing
pub mod Bounds
mod Putting
mod Joining
mod Splitting
