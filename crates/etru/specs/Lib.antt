pub mod Scheme
pub mod Calls
pub mod Promises
pub mod Demand3
pub mod WholeTriples
