pub mod Bands
pub mod Seen
pub mod Ranges
pub mod Neighbours
