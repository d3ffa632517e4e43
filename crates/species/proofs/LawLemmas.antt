-- The lemmas that other crates cite. Each is a clause of a law too.
pub use Rattle.species.proofs.TextLists.{position-map, list_any-map, list_any-position, is_in-index, index-within, found, missing}
