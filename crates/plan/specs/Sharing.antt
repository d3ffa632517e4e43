-- Places that share a site.
use Rattle.std.specs.Prelude.{ℕ}
use Rattle.lattice.specs.Shape.{Shape}
use Rattle.lattice.specs.Places.{HasSite}

-- a site of both places
pub record ShareSite (l : Shape) (p q : ℕ) : Type 0 where
  pub site : ℕ
  pub first : HasSite l p site
  pub second : HasSite l q site
