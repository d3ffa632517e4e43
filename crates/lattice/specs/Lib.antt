pub mod Shape
pub mod Places
pub mod Rows
pub mod Ranges
pub mod Channels
pub mod Surface
pub mod Rising
