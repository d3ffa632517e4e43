pub mod Keys
pub mod Steps
pub mod Channels
pub mod Rates
pub mod Status
