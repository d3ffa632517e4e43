pub mod Waits
pub mod Rates
pub mod Durations
