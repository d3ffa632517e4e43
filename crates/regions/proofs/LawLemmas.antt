-- The laws of a cut that other crates cite: each is a clause of a law.
pub use Rattle.regions.proofs.Owners.{owner_below}
pub use Rattle.regions.proofs.Sights.{sees_own}
pub use Rattle.regions.proofs.Tellings.{unseen, not_itself, told_below}
