mod Steps
mod Sites
mod Writes
mod Insertion
mod Slots
mod Moves
mod Chain
mod Around
mod Apart
mod AfterSite
mod Rank
mod Seven
mod With
mod Rows
pub mod LawLemmas
