-- The laws of circuits that other crates cite: each is a clause of a law.
pub use Rattle.circuit_text.proofs.NetValues.{values_are}
