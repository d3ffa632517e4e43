pub mod Counting
pub mod Following
pub mod States
pub mod Last
pub mod Publishing
pub mod Texting
pub mod Views
pub mod LawLemmas
