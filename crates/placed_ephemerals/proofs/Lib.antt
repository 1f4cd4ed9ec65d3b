pub mod Agreeing
pub mod Layouts
pub mod Promises
pub mod Demand3
