mod Cutting
mod Spellings
mod Lines
mod Contents
mod Again
pub mod LawLemmas
