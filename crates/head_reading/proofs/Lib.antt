pub mod HeadChecks
