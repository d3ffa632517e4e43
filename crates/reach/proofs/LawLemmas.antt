-- The laws of what firings reach, as lemmas that other crates may cite. Each is a clause of `laws` too.
pub use Rattle.reach.proofs.Species.{prefix_reaches}
pub use Rattle.reach.proofs.Rests.{rests}
pub use Rattle.reach.proofs.Counts.{uses_up}
