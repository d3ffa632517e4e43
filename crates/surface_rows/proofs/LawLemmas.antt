-- The laws of rows that other crates cite: each is a clause of a law.
pub use Rattle.surface_rows.proofs.RowParts.{rows-none, rows-more, rows-within}
