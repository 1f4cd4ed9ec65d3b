pub mod Passed
pub mod RoundTrips
pub mod Unpacked
