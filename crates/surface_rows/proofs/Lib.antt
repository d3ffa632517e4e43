mod Spaced
mod RowParts
pub mod LawLemmas
