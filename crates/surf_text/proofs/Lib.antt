pub mod Places
pub mod Trims
pub mod Passing
pub mod Ends
pub mod PartTexts
pub mod DigitParts
pub mod Spelling
pub mod LawLemmas
