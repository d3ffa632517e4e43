mod Prefixes
mod Adding
mod Steps
mod States
mod Writing
pub mod LawLemmas
