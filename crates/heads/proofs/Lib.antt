pub mod ArraysOfKinds
pub mod Copied
pub mod Handed
pub mod Numbers
pub mod PartsFit
