pub mod Operands
pub mod Products
pub mod Promises
