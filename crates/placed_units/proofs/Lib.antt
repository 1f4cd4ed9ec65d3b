pub mod Lists
pub mod Layouts
pub mod Orders
pub mod PlacesOf
