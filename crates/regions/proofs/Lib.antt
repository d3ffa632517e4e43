mod Rows
mod Owners
mod Sights
mod Tellings
mod Pairs
mod Near
mod Listing
mod Ranges
mod Meeting
pub mod LawLemmas
