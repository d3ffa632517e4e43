mod Texts
mod Below
mod Counted
pub mod LawLemmas
