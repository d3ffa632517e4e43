pub mod States
pub mod Capped
pub mod Growth
pub mod Places
pub mod Ends
