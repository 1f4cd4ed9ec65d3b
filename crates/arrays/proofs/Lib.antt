pub mod Scans
pub mod Changing
pub mod Sizes
