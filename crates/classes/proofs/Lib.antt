pub mod Sixteen
pub mod Standing
