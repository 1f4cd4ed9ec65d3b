pub mod Messages
pub mod Promises
