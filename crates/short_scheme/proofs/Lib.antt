pub mod Promises
pub mod Demand3
