pub mod Changes
pub mod Published
pub mod Viewing
pub mod Lines
pub mod Views
