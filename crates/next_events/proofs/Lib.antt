mod Refreshing
mod Filling
pub mod LawLemmas
