-- The lemmas that other crates cite: each is a clause of a law.
pub use Rattle.surface_state.proofs.Undoing.{undone_applied, left_applied, place_before, pair_before}
pub use Rattle.surface_state.proofs.Products.{applied_after}
