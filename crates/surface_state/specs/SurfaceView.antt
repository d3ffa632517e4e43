-- What a surface is seen as.
use Rattle.std.specs.Prelude.{ℕ, List}
use Rattle.surf_kinds.specs.declared.site.SiteState.{SiteState}
use Rattle.lattice.specs.Shape.{Shape}

-- a lattice, the number of species, and the states of the sites
pub record SurfaceView : Type 0 where
  pub lattice : Shape
  pub species_count : ℕ
  pub sites : List SiteState
