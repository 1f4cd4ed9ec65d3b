pub mod FirstBytes
pub mod InputParts
pub mod JoinedArrays
pub mod KeptArrays
pub mod ReadFiles
pub mod ReadKeys
