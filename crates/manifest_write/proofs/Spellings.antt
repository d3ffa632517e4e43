-- How numbers, names and pieces of lines are spelled.
pub mod Loops
pub mod Forms
pub mod Zeros
pub mod Numbers
pub mod NameTexts
