pub mod Passed
pub mod Products
pub mod Openings
pub mod Correctness
pub mod Demand3
pub mod WholeTriples
