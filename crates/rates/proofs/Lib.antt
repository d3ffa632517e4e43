mod Waiting
mod Divisors
mod Lowest
pub mod LawLemmas
mod Vectors
