-- The first site of a place is one of the lattice.
use Rattle.std.proofs.Common.{◌≡◌, ℕ, ◌*◌, ◌<◌, Option, Some, None, refl, arith}
use Rattle.surf_kinds.specs.declared.site.Sites.{Sites}
use Rattle.std.specs.Prelude.{IsSome}
use Rattle.surf_kinds.specs.Steps.{site_of_place}
use Rattle.lattice.specs.Shape.{Shape}
use Rattle.lattice.specs.Places.{IsPlace, sites_of}
use Rattle.lattice.proofs.LawLemmas.{place_below}

the-sites : (o : Option Sites) → IsSome o → (p : Sites) × (o ≡ Some p)
the-sites None is = absurd cc
the-sites (Some p) is = (p, refl)

pub site-below : (l : Shape) (place : ℕ) → IsPlace l place → site_of_place place < l.rows * l.cols
site-below l place is = let p = the-sites (sites_of l place) is in omega (arith, place_below l place p.0 p.1)
