-- What other crates may cite.
pub use Rattle.trace_text.proofs.Counted.{sum-counts_of}
