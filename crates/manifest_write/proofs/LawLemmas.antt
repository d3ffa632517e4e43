-- What other crates may cite. Each is a clause of `laws` too.
pub use Rattle.manifest_write.proofs.Again.Made.{made-again}
