pub mod ArrayChecks
