pub mod State
pub mod Running
