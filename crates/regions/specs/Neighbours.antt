-- The neighbours of a region: the one before it and the one after it.
use Rattle.std.specs.Prelude.{◌≡◌, ◌≢◌, ◌⊎◌, ◌↔◌, ℕ, ◌+◌, ◌-◌, Option, Some, None, true, nat_lt, if◌then◌else◌}
use Rattle.lattice.specs.Places.{wraps, IsPlace}
use Rattle.regions.specs.Bands.{Bands, owner_of}
use Rattle.regions.specs.Seen.{is_told}

-- the region before one; where rows wrap, the last region is before the first
abbrev pub region_before : Bands → ℕ → Option ℕ
region_before b region =
    if nat_lt 0 region then Some (region - 1) else (if wraps b.lattice.wrap b.lattice.rows then Some (b.count - 1) else None)

abbrev pub region_after : Bands → ℕ → Option ℕ
region_after b region =
    if nat_lt (region + 1) b.count then Some (region + 1) else (if wraps b.lattice.wrap b.lattice.rows then Some 0 else None)

-- another region, which is the one before or the one after
abbrev pub IsNeighbour : Bands → ℕ → ℕ → Type 0
IsNeighbour b region other = (region ≢ other) × ((region_before b region ≡ Some other) ⊎ (region_after b region ≡ Some other))

-- these are the neighbours of a region, each once
pub record AreNeighbours (b : Bands) (region : ℕ) (first second : Option ℕ) : Type 0 where
  pub exactly : (other : ℕ) → ((first ≡ Some other) ⊎ (second ≡ Some other)) ↔ IsNeighbour b region other
  pub apart : (other : ℕ) → first ≡ Some other → second ≡ Some other → ⊥

-- the other region is told of events of this one
pub record Meeting (b : Bands) (region other : ℕ) : Type 0 where
  pub place : ℕ
  pub is_place : IsPlace b.lattice place
  pub own : owner_of b place ≡ region
  pub told : is_told b other place ≡ true
