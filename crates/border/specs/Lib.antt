pub mod Messages
pub mod Ends
pub mod Stacked
