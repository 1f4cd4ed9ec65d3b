pub mod LineRoom
pub mod LongInput
pub mod WrittenFiles
