mod Summary
mod Joined
mod Arrows
mod Pieces
mod Cells
mod Numbers
mod Stays
mod Renumbered
mod LastSettings
mod Taken
mod Formed
mod Soundness
mod Outcomes
pub mod LawLemmas
