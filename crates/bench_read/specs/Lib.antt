pub mod Lines
pub mod Passes
pub mod Order
pub mod Netlists
pub mod Readings
pub mod Placing
pub mod Chains
