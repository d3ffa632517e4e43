mod Gains
mod Copied
mod PartTexts
pub mod LawLemmas
