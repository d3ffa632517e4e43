mod Firing
mod Outcoming
mod Tabling
mod Spreading
mod Wordings
pub mod LawLemmas
