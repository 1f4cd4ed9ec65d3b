pub mod Operands
pub mod Repeated
