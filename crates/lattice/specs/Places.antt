-- The places of a lattice: its sites, and its pairs of neighbours.
--
-- Site s stands in row s / columns and in column s % columns. A place is a site alone, or its pair with the neighbour to
-- the east, to the south or, on the hexagonal lattice, to the south-west.
use Rattle.std.specs.Prelude.{◌≡◌, ℕ, ◌+◌, ◌-◌, ◌*◌, ◌/◌, ◌%◌, List, map, Option, Some, None, Bool, true, false, ◌&&◌, ◌⊎◌, ◌↔◌, nat_le, nat_lt, if◌then◌else◌, Contains, IsSome}
use Rattle.std.specs.List.Sorted.{IsStrictlyIncreasing}
use Rattle.surf_kinds.specs.declared.site.SiteId.{SiteId}
use Rattle.surf_kinds.specs.declared.site.Sites.{Sites}
use Rattle.surf_kinds.specs.declared.place.Place.{Place}
use Rattle.surf_kinds.specs.declared.place.Step.{Step}
use Rattle.surf_kinds.specs.declared.place.Step.TheVariants.{Alone, East, South, SouthWest}
use Rattle.surf_kinds.specs.Steps.{site_of_place, step_of_place}
use Rattle.lattice.specs.declared.grid.Kind.{Kind}
use Rattle.lattice.specs.declared.grid.Kind.TheVariants.{Square, Hex}
use Rattle.lattice.specs.Shape.{Shape}

-- a step past an edge comes in at the other one, where that dimension has at least 3 sites
abbrev pub wraps : Bool → ℕ → Bool
wraps wrap size = wrap && nat_le 3 size

-- the coordinate after i in a dimension of this size, where the step leads to one
abbrev pub forward : Bool → ℕ → ℕ → Option ℕ
forward wrap size i = if nat_lt (i + 1) size then Some (i + 1) else (if wraps wrap size then Some 0 else None)

-- the coordinate before i
abbrev pub back : Bool → ℕ → ℕ → Option ℕ
back wrap size i = if nat_lt 0 i then Some (i - 1) else (if wraps wrap size then Some (size - 1) else None)

-- the site of a row and a column
abbrev pub site_at : ℕ → Option ℕ → Option ℕ → Option SiteId
site_at cols None col = None
site_at cols (Some row) None = None
site_at cols (Some row) (Some col) = Some (record { 0 = row * cols + col })

abbrev pub is_hex : Kind → Bool
is_hex Square = false
is_hex Hex = true

-- the neighbour to which a step leads
abbrev pub neighbour : Shape → ℕ → Step → Option SiteId
neighbour l s Alone = None
neighbour l s East = site_at l.cols (Some (s / l.cols)) (forward l.wrap l.cols (s % l.cols))
neighbour l s South = site_at l.cols (forward l.wrap l.rows (s / l.cols)) (Some (s % l.cols))
neighbour l s SouthWest =
    if is_hex l.kind then site_at l.cols (forward l.wrap l.rows (s / l.cols)) (back l.wrap l.cols (s % l.cols)) else None

-- the site from which a step leads here
abbrev pub behind : Shape → ℕ → Step → Option SiteId
behind l s Alone = None
behind l s East = site_at l.cols (Some (s / l.cols)) (back l.wrap l.cols (s % l.cols))
behind l s South = site_at l.cols (back l.wrap l.rows (s / l.cols)) (Some (s % l.cols))
behind l s SouthWest =
    if is_hex l.kind then site_at l.cols (back l.wrap l.rows (s / l.cols)) (forward l.wrap l.cols (s % l.cols)) else None

-- the same, where a place's number has a step
abbrev pub beside : Shape → ℕ → Option Step → Option SiteId
beside l s None = None
beside l s (Some step) = neighbour l s step

abbrev pub paired : ℕ → Option SiteId → Option Sites
paired s None = None
paired s (Some n) = Some (record { first = record { 0 = s }; second = Some n })

abbrev pub sites_at : Shape → ℕ → Option Step → Option Sites
sites_at l s (Some Alone) = Some (record { first = record { 0 = s }; second = None })
sites_at l s step = paired s (beside l s step)

-- the sites of a place, where the number is one
unfoldable pub sites_of : Shape → ℕ → Option Sites
sites_of l place =
    if nat_lt (site_of_place place) (l.rows * l.cols) then sites_at l (site_of_place place) (step_of_place place) else None

-- the number is a place
abbrev pub IsPlace : Shape → ℕ → Type 0
IsPlace l place = IsSome (sites_of l place)

-- the site is one of these
abbrev pub IsAmong : ℕ → Sites → Type 0
IsAmong s sites = (sites.first.0 ≡ s) ⊎ (sites.second ≡ Some (record { 0 = s }))

-- the number is a place that has the site
pub record HasSite (l : Shape) (place s : ℕ) : Type 0 where
  pub sites : Sites
  pub is : sites_of l place ≡ Some sites
  pub among : IsAmong s sites

-- each site of the one is a site of the other
abbrev pub SameSites : Sites → Sites → Type 0
SameSites x y = (s : ℕ) → IsAmong s x ↔ IsAmong s y

abbrev pub number_of : Place → ℕ
number_of place = place.0

-- these are all the places of the site, rising
pub record ArePlacesOf (l : Shape) (s : ℕ) (places : List Place) : Type 0 where
  pub rising : IsStrictlyIncreasing (map number_of places)
  pub exactly : (place : ℕ) → HasSite l place s ↔ Contains places (record { 0 = place })
