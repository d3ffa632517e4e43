mod NetValues
mod Counts
mod NameTexts
mod Grows
mod Runs
mod FormedLines
mod Taken
mod Known
mod Joined
mod Lines
mod Facts
mod Whole
mod Sizes
mod OutputNumbers
pub mod LawLemmas
