-- The laws of entries that other crates cite: each is a clause of a law.
pub use Rattle.timeline.proofs.Leading.{step_applied}
pub use Rattle.timeline.proofs.Rising.{parts}
