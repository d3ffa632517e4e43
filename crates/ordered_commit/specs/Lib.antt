pub mod Count
pub mod Merge
