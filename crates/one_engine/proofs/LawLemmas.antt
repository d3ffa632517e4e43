-- The laws of an engine's states, as lemmas that other crates may cite. Each is a clause of `laws` too.
pub use Rattle.one_engine.proofs.Settled.{first_settled, settled_within, settled_after, can_fire, leaves_products}
pub use Rattle.one_engine.proofs.Firings.{fired_network, fired_sites}
