mod Settled
mod Fires
mod Firings
pub mod LawLemmas
