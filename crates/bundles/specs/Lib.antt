pub mod Bundles
pub mod Calls
pub mod Steps
pub mod Promises
