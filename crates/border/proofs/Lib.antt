mod Cutting
mod Replays
mod StackFacts
mod Waiting
pub mod LawLemmas
