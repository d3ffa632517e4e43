mod Columns
mod Undoing
mod Products
pub mod LawLemmas
