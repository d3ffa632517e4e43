mod Written
mod Applying
mod Firing
mod Sampling
mod Showing
mod SurfaceLines
mod Progressing
mod Batches
mod Endings
mod Crewing
mod Alike
mod CutTexts
mod SpeciesKept
mod TextEnds
pub mod LawLemmas
