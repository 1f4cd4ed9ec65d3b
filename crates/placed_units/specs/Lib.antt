pub mod PlacedUnits
pub mod Layout
