pub mod LastOnes
pub mod PaddedBits
pub mod ReadingBack
pub mod Rooms
