pub mod Classes
pub mod Pairs
pub mod Promises
