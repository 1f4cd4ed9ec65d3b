pub mod Values
pub mod Reduction
pub mod Calls
pub mod Promises
