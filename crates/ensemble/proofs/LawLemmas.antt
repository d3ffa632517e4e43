-- The laws of texts that other crates cite: each is a clause of a law.
pub use Rattle.ensemble.proofs.Wordings.{texts-more, texts-within}
