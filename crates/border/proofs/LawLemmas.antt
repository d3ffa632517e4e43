-- The laws of messages that other crates cite: each is a clause of a law.
pub use Rattle.border.proofs.Replays.{replay_append, rise_replay, from_replay, below_replay}
