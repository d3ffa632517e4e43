mod Squarings
mod Bounds
mod Near
pub mod LawLemmas
mod Vectors
