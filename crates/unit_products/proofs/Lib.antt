mod PlacesOf
mod RotatedSums
mod Horner
mod Blocks
