pub mod WritingChecks
