pub mod ArrayParts
mod EarlyRefusals
