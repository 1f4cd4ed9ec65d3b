pub mod Corners
pub mod Limits
pub mod Candidates
pub mod Moduli
