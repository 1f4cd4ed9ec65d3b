pub mod Neighbours
