mod Offered
mod Species
mod Rests
mod Waits
mod Counts
pub mod LawLemmas
