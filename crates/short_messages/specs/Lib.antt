pub mod ShortMessages
pub mod Promises
