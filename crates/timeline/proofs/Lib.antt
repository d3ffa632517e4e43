mod Rising
mod Leading
mod Undoing
pub mod LawLemmas
