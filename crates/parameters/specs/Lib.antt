pub mod Sets
pub mod Checked
