-- The laws of the entries of queues, as lemmas that other crates may cite. Each is a clause of `laws` too.
pub use Rattle.next_events.proofs.Refreshing.{covers_range, covers_all, up_to_date_after}
