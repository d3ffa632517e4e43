-- The sites that a region sees, and the events that it is told of.
use Rattle.std.specs.Prelude.{◌≡◌, ◌≢◌, ℕ, zero, suc, ◌*◌, ◌↔◌, Bool, false, not, ◌==◌, ◌&&◌, ◌||◌, List, Contains, IsTrue}
use Rattle.std.specs.Option.{option_map_or}
use Rattle.std.specs.List.Sorted.{IsStrictlyIncreasing}
use Rattle.surf_kinds.specs.declared.site.SiteId.{SiteId}
use Rattle.surf_kinds.specs.declared.site.Sites.{Sites}
use Rattle.surf_kinds.specs.Steps.{end_of_places}
use Rattle.lattice.specs.Places.{sites_of, HasSite}
use Rattle.regions.specs.Bands.{Bands, owner_of}

-- one of the sites passes a test
abbrev pub some_site : (ℕ → Bool) → Sites → Bool
some_site test p = test p.first.0 || option_map_or (λ (n : SiteId). test n.0) p.second false

-- one of the sites of a place passes a test
abbrev pub some_site_of : Bands → (ℕ → Bool) → ℕ → Bool
some_site_of b test place = option_map_or (some_site test) (sites_of b.lattice place) false

-- a place of the region, among those below n, has the site
abbrev pub sees_upto : Bands → ℕ → ℕ → ℕ → Bool
sees_upto b region site zero = false
sees_upto b region site (suc place) =
    (owner_of b place == region && some_site_of b (λ s. s == site) place) || sees_upto b region site place

-- a region sees the sites of its own places
unfoldable pub sees : Bands → ℕ → ℕ → Bool
sees b region site = sees_upto b region site (end_of_places (b.lattice.rows * b.lattice.cols))

-- a region is told of the events at another's place where it sees one of the sites
unfoldable pub is_told : Bands → ℕ → ℕ → Bool
is_told b region place = not (owner_of b place == region) && some_site_of b (sees b region) place

-- some place of the region has the site
pub record Sees (b : Bands) (region site : ℕ) : Type 0 where
  pub place : ℕ
  pub own : owner_of b place ≡ region
  pub has : HasSite b.lattice place site

-- the place is another region's, and the region sees one of its sites
pub record IsTold (b : Bands) (region place : ℕ) : Type 0 where
  pub other : owner_of b place ≢ region
  pub site : ℕ
  pub has : HasSite b.lattice place site
  pub seen : Sees b region site

-- these are all the regions that are told of the events at a place, rising
pub record AreTold (b : Bands) (place : ℕ) (regions : List ℕ) : Type 0 where
  pub rising : IsStrictlyIncreasing regions
  pub exactly : (region : ℕ) → IsTrue (is_told b region place) ↔ Contains regions region
