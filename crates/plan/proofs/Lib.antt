mod Standing
mod Offers
mod Fitting
mod Changes
mod Leasts
mod Histories
mod Listed
pub mod LawLemmas
