-- The laws of places and of what events leave: all that other crates cite of these proofs.
use Rattle.std.proofs.Common.{◌≡◌, ℕ, ◌*◌, ◌<◌, Some, None, refl}
use Rattle.surf_kinds.specs.declared.site.Sites.{Sites}
use Rattle.surf_kinds.specs.declared.place.Step.TheVariants.{Alone}
use Rattle.surf_kinds.specs.Steps.{site_of_place, number_of_place}
use Rattle.lattice.specs.Shape.{Shape}
use Rattle.lattice.specs.Places.{sites_of}
use Rattle.lattice.proofs.Slots.{alone_is}
use Rattle.lattice.proofs.Sites.{described}
-- the sites of a place are sites of the lattice
pub use Rattle.lattice.proofs.Sites.{first_below, second_below}
pub use Rattle.lattice.proofs.Apart.{sites_below, place_below}
-- places differ in their sites
pub use Rattle.lattice.proofs.Apart.{sites_differ, same_sites}
-- the rows of a place's sites
pub use Rattle.lattice.proofs.Rows.{row_below, row_of_site, has_first, has_lower, has_upper, row_back}
-- the rewriting of one site
pub use Rattle.lattice.proofs.Writes.{rewrite_other, rewrite_same, room_left, room_at}
-- what an event leaves
pub use Rattle.lattice.proofs.AfterSite.{after_length, after_none, after_first, after_second, after_other, after_site}
-- at most seven rewritings of a site in a tick
pub use Rattle.lattice.proofs.Seven.{seven, last_at_most}

-- the first site is the one that the place's number names
pub first_is : (l : Shape) (place : ℕ) (p : Sites) → sites_of l place ≡ Some p → p.first.0 ≡ site_of_place place
first_is l place p is = (described l place p is).first

-- each site alone is a place
pub site_alone : (l : Shape) (s : ℕ) → s < l.rows * l.cols → sites_of l (number_of_place s Alone) ≡ Some (record { first = record { 0 = s }; second = None })
site_alone l s h = alone_is l s (number_of_place s Alone) h refl
