-- The laws of the simulation, as lemmas that other crates may cite. Each is a clause of `laws` too.
pub use Rattle.plan.proofs.Offers.{offer_is, offer_place, offer_later, offer_fits, next_local}
pub use Rattle.plan.proofs.Fitting.{fits_is_place, fits_is_channel, fits_products}
pub use Rattle.plan.proofs.Changes.{after_elsewhere, shares, offer_apart, offer_shared, offer_after, offer_again}
pub use Rattle.plan.proofs.Leasts.{least_is, least_none, due_next}
pub use Rattle.plan.proofs.Histories.{history_due, history_none, history_next, is_history, only_history, rising, at_history}
