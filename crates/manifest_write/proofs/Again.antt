-- The canonical text is read again.
pub mod Whole
pub mod Spelled
pub mod Wording
pub mod Valid
pub mod OneSpelling
pub mod Made
