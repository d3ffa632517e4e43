pub mod Tournament
pub mod Halves
pub mod QueueView
