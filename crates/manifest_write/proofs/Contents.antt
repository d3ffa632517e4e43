-- The content of a manifest, and how a reader takes it line by line.
pub mod Fits
pub mod Room
pub mod Blocks
pub mod Content
pub mod Grid
pub mod NumberedNames
pub mod Reaching
