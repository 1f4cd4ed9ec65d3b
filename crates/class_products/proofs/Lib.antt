pub mod Laying
pub mod RunSums
pub mod StartsOf
pub mod Products
pub mod Lengths
