-- What other crates may cite. Each is a clause of `laws` too.
pub use Rattle.run_writer.proofs.Endings.{first_fresh, stopped_prefix}
pub use Rattle.run_writer.proofs.TextEnds.{ends, shows, ticks_end}
pub use Rattle.run_writer.proofs.Written.{wrote_nothing, wrote_more, puts_after, stopped_after, stopped_longer, wrote_all}
