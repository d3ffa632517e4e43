-- The shape of a lattice: its kind, its rows and columns, and whether it wraps around its edges.
use Rattle.std.specs.Prelude.{ℕ, Bool, ◌*◌, ◌^◌, ◌≤◌}
use Rattle.lattice.specs.declared.grid.Kind.{Kind}

pub record Shape : Type 0 where
  pub kind : Kind
  pub rows : ℕ
  pub cols : ℕ
  pub wrap : Bool

-- there is a site, and there are at most 2 ^ 20
pub record IsSize (rows cols : ℕ) : Type 0 where
  pub rows_at_least : 1 ≤ rows
  pub cols_at_least : 1 ≤ cols
  pub at_most : rows * cols ≤ 2 ^ 20
