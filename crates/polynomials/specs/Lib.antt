pub mod Polynomials
pub mod Promises
pub mod WholeTriples
