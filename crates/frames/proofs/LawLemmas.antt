-- The laws of states and of beginnings, as lemmas that other crates may cite. Each is a clause of `laws` too.
pub use Rattle.frames.proofs.States.{after-snoc, after-events, after-length, next-total}
pub use Rattle.frames.proofs.Prefixes.{prefix_shorter, prefix_whole, prefix_trans}
