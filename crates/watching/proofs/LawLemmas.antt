-- What other crates may cite. Each is a clause of `laws` too.
pub use Rattle.watching.proofs.States.{state_is}
pub use Rattle.watching.proofs.Views.{done_wide, are_views}
