-- What other crates may cite.
pub use Rattle.manifest_read.proofs.Summary.{content_of-more}
pub use Rattle.manifest_read.proofs.Joined.{state_after-more, fault-is}
pub use Rattle.manifest_read.proofs.Numbers.{listed-left, listed-right, listed-both, listed-seen, few-seen}
pub use Rattle.manifest_read.proofs.Stays.{name_at_place}
pub use Rattle.manifest_read.proofs.Soundness.{accepted-within, accepted-size, manifest-sound}
