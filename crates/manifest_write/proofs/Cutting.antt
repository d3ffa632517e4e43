-- Texts that are cut and trimmed.
pub mod Bytes
pub mod Parted
pub mod Tight
pub mod Texts
