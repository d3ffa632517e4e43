pub mod Reach
pub mod Bounds
pub mod Counting
