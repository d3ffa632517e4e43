pub mod Outcomes
pub mod Running
pub mod Texts
pub mod Wording
